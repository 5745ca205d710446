-- A fresh domain is entered.
use Rattle.list_lemmas.proofs.FoundItems.{on_err}
use Rattle.frame_store.proofs.DomainIsEntered.{admits, unentered, not_admitted}
use Rattle.frame_store.proofs.plain_frames.PlainFramesFrameStore.admit.Goals as goal

pub enter-requires-clause-new : goal.enter-requires-clause-new
enter-requires-clause-new c = not_admitted c.args.self.now.domains c.args.d.0 c.requires.new

pub returns-in_err-enter-clause-err : goal.returns-in_err-enter-clause-err
returns-in_err-enter-clause-err c = on_err _ _ (unentered _ _ _ _ c.in_err-enter.ensures.err)

pub returns-clause-ok : goal.returns-clause-ok
returns-clause-ok c =
    let st = c.args.self.now in
    admits _ _ _ _ st.owed st.ok c.args.d c.in_ok-fresh.fresh c.args.chunks (not_admitted st.domains c.args.d.0 c.requires.new) c.in_ok-fresh.ensures
    c.in_ok-enter.ensures.ok
