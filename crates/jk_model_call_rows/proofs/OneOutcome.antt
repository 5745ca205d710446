-- What a call comes to is told by the instruction, the frame and the heap, and so is what becomes of the frame.
use Rattle.std.proofs.Common.{◌≡◌, ℕ, ◌<◌, ◌≤◌, ◌==◌, ◌⊎◌, ℤ, pos, not, IsTrue, inl, inr, List, [], ◌++◌, length, slice_get, refl, sym, ap, subst, ◌∙◌, arith}
use Rattle.std.proofs.lemmas.Bool.Decides.{nat_tests}
use Rattle.std.proofs.lemmas.Option.{same_Some}
use Rattle.list_lemmas.proofs.EndsOfLists.{one_split}
use Rattle.class_lemmas.proofs.CodeOfMethods.{same_code, system_has_none}
use Rattle.class_lemmas.proofs.LinksToMembers.{one_linked}
use Rattle.jk_model.specs.declared.identifiers.MemberId.{MemberId}
use Rattle.jk_model.specs.declared.instructions.Instr.{Instr}
use Rattle.jk_model.specs.declared.opcodes.TheConstants.{INVOKEINTERFACE, INVOKESPECIAL, INVOKESTATIC, INVOKEVIRTUAL}
use Rattle.jk_model.specs.declared.steps.Raise.TheVariants as Raised
use Rattle.jk_model.specs.declared.steps.Standing.TheVariants as Stands
use Rattle.jk_model.specs.declared.values.Value.{Value}
use Rattle.jk_model_classes.specs.declared.records.Body.TheVariants as Does
use Rattle.jk_model_classes.specs.declared.records.ClassRecord.{ClassRecord}
use Rattle.jk_model_classes.specs.declared.records.Link.{Link}
use Rattle.jk_model_classes.specs.declared.records.Link.TheVariants as To
use Rattle.jk_model_classes.specs.declared.records.LinkedCode.{LinkedCode}
use Rattle.jk_model_classes.specs.declared.records.MethodRecord.{MethodRecord}
use Rattle.jk_model_classes.specs.Lookups.{MethodIs}
use Rattle.class_lemmas.proofs.OneRecord.{one_method}
use Rattle.jk_model_typing.specs.Scopes.{CodeScope, LeadsToLink}
use Rattle.jk_model_frames.specs.Frames.{FrameState, head_chunks}
use Rattle.jk_model_domains.specs.NumberRows.{Replaces}
use Rattle.jk_model_heaps.specs.CalledFrames.{IsCalledFrame, call_head}
use Rattle.jk_model_heaps.specs.RunningCode.{NamesMethod}
use Rattle.jk_model_heaps.specs.Workings.{Calls, Outcome, RaisesHere, Setting, Working}
use Rattle.jk_model_call_rows.specs.CallRows.{AtReceiver, CallRow, CallsSystem, FollowsTarget, MethodCall, RunsMethod, given_count}
use Rattle.jk_model_call_rows.specs.Targets.{Fails, InterfaceTarget, Runs, SpecialTarget, Target, Through, VirtualTarget}
use Rattle.jk_model_call_rows.proofs.OneSelected.{one_at_receiver, one_interface_target, one_special_target, one_virtual_target}

-- ---- Which method an instruction names.

same_index : (a : ℤ) (m n : ℕ) → a ≡ pos m → a ≡ pos n → m ≡ n
same_index a m n e f = cc

one_link : (s : CodeScope) (i : Instr) (a b : Link) → LeadsToLink s i a → LeadsToLink s i b → a ≡ b
one_link s i a b h k =
    let place : h.0 ≡ k.0 = same_index i.a h.0 k.0 h.1 k.1 in
    same_Some a b (sym h.2 ∙ ap (slice_get s.links) place ∙ k.2)

same_found : (s : CodeScope) (i : Instr) (m n : MemberId) (a b : MethodRecord) → NamesMethod s i m a → NamesMethod s i n b → m ≡ n
same_found s i m n a b (c, leads, is) (d, too, also) = one_linked c d m n (one_link s i (To.Method c m) (To.Method d n) leads too)

same_record : (classes : List ClassRecord) (m n : MemberId) (a b : MethodRecord) → m ≡ n → MethodIs classes m a → MethodIs classes n b → a ≡ b
same_record classes m n a b same is also = one_method classes n a b (subst (λ (k : MemberId). MethodIs classes k a) same is) also

-- ---- What the call comes to.

other_op : (n a b : ℕ) → IsTrue (not (a == b)) → n ≡ a → n ≡ b → ⊥
other_op n a b test e f = let same : a ≡ b = sym e ∙ f in grind (arith, nat_tests)

pub record IsOneCall {x : Setting} {s : CodeScope} {i : Instr} {w : Working} (a b : MethodCall x s i w) : Type 0 where
  pub found : a.found ≡ b.found
  pub given : a.given ≡ b.given
  pub target : a.target ≡ b.target

module _ (x : Setting) (s : CodeScope) (i : Instr) (w : Working) where
  -- as `MethodCall` says it
  abbrev ComesTo : MemberId → MethodRecord → List Value → Target → Type 0
  ComesTo found method given target =
      ((i.op ≡ INVOKESTATIC) × (target ≡ Runs found))
      ⊎ ((i.op ≡ INVOKEVIRTUAL) × AtReceiver (λ receiver. VirtualTarget x.classes w.inside.heap receiver found) given target)
      ⊎ ((i.op ≡ INVOKESPECIAL) × AtReceiver (λ receiver. SpecialTarget x.classes s.self found method) given target)
      ⊎ ((i.op ≡ INVOKEINTERFACE) × AtReceiver (λ receiver. InterfaceTarget x.classes w.inside.heap receiver found) given target)

  one_target : (m : MemberId) (method : MethodRecord) (given : List Value) (t u : Target) → ComesTo m method given t → ComesTo m method given u
      → t ≡ u
  one_target m method given t u (inl p) (inl q) = p.1 ∙ sym q.1
  one_target m method given t u (inl p) (inr (inl q)) = absurd (other_op i.op INVOKESTATIC INVOKEVIRTUAL refl p.0 q.0)
  one_target m method given t u (inl p) (inr (inr (inl q))) = absurd (other_op i.op INVOKESTATIC INVOKESPECIAL refl p.0 q.0)
  one_target m method given t u (inl p) (inr (inr (inr q))) = absurd (other_op i.op INVOKESTATIC INVOKEINTERFACE refl p.0 q.0)
  one_target m method given t u (inr (inl p)) (inl q) = absurd (other_op i.op INVOKEVIRTUAL INVOKESTATIC refl p.0 q.0)
  one_target m method given t u (inr (inl p)) (inr (inl q)) =
      one_at_receiver (λ receiver. VirtualTarget x.classes w.inside.heap receiver m)
      (λ v. one_virtual_target x.classes w.inside.heap v m) given t u p.1 q.1
  one_target m method given t u (inr (inl p)) (inr (inr (inl q))) = absurd (other_op i.op INVOKEVIRTUAL INVOKESPECIAL refl p.0 q.0)
  one_target m method given t u (inr (inl p)) (inr (inr (inr q))) = absurd (other_op i.op INVOKEVIRTUAL INVOKEINTERFACE refl p.0 q.0)
  one_target m method given t u (inr (inr (inl p))) (inl q) = absurd (other_op i.op INVOKESPECIAL INVOKESTATIC refl p.0 q.0)
  one_target m method given t u (inr (inr (inl p))) (inr (inl q)) = absurd (other_op i.op INVOKESPECIAL INVOKEVIRTUAL refl p.0 q.0)
  one_target m method given t u (inr (inr (inl p))) (inr (inr (inl q))) =
      one_at_receiver (λ receiver. SpecialTarget x.classes s.self m method)
      (λ v. one_special_target x.classes s.self m method) given t u p.1 q.1
  one_target m method given t u (inr (inr (inl p))) (inr (inr (inr q))) = absurd (other_op i.op INVOKESPECIAL INVOKEINTERFACE refl p.0 q.0)
  one_target m method given t u (inr (inr (inr p))) (inl q) = absurd (other_op i.op INVOKEINTERFACE INVOKESTATIC refl p.0 q.0)
  one_target m method given t u (inr (inr (inr p))) (inr (inl q)) = absurd (other_op i.op INVOKEINTERFACE INVOKEVIRTUAL refl p.0 q.0)
  one_target m method given t u (inr (inr (inr p))) (inr (inr (inl q))) = absurd (other_op i.op INVOKEINTERFACE INVOKESPECIAL refl p.0 q.0)
  one_target m method given t u (inr (inr (inr p))) (inr (inr (inr q))) =
      one_at_receiver (λ receiver. InterfaceTarget x.classes w.inside.heap receiver m)
      (λ v. one_interface_target x.classes w.inside.heap v m) given t u p.1 q.1

  moved : (m n : MemberId) (a b : MethodRecord) (given too : List Value) (t : Target) → m ≡ n → a ≡ b → given ≡ too → ComesTo m a given t
      → ComesTo n b too t
  moved m n a b given too t e f g h =
      subst (λ (k : MemberId). ComesTo k b too t) e
      (subst (λ (r : MethodRecord). ComesTo m r too t) f (subst (λ (vs : List Value). ComesTo m a vs t) g h))

  pub one_call : (a b : MethodCall x s i w) → IsOneCall a b
  one_call a b =
      let found : a.found ≡ b.found = same_found s i a.found b.found a.method b.method a.names b.names in
      let method : a.method ≡ b.method = same_record s.classes a.found b.found a.method b.method found a.names.2 b.names.2 in
      let count : length a.given ≡ length b.given = a.as_many ∙ ap (given_count i.op) method ∙ sym b.as_many in
      let given : a.given ≡ b.given =
      (one_split a.on_top.0 b.on_top.0 a.given b.given (sym a.on_top.1 ∙ b.on_top.1) count).1 in
      record {
        found = found;
        given = given;
        target = one_target b.found b.method b.given a.target b.target
            (moved a.found b.found a.method b.method a.given b.given a.target found method given a.comes_to) b.comes_to;
      }

  -- ---- What becomes of the frame.

  module _ (new other : Working) (o r : Outcome) where
    abbrev Agree : Type 0
    Agree = (new ≡ other) × (o ≡ r)

    both : new.inside ≡ other.inside → new.frame ≡ other.frame → new ≡ other
    both e f = λ j. record { inside = e j; frame = f j }

    popped : (f g h : FrameState) (given : List Value) → Replaces f g given [] → Replaces f h given [] → g ≡ h
    popped f g h given p q =
        let below : p.below ≡ q.below = (one_split p.below q.below given given (sym p.before ∙ q.before) refl).0 in
        p.after ∙ ap (λ (vs : List Value). record f { stack = vs ++ [] }) below ∙ sym q.after

    one_body : (m : MemberId) (given : List Value) (p : RunsMethod x m given w new o) (q : RunsMethod x m given w other r) → p.code ≡ q.code
    one_body m given p q =
        let method : p.method ≡ q.method = one_method x.classes m p.method q.method p.is_method q.is_method in
        same_code p.code q.code (sym p.body ∙ ap (λ (k : MethodRecord). k.body) method ∙ q.body)

    abbrev DoesCode : LinkedCode → MemberId → List Value → Working → Outcome → Type 0
    DoesCode code m given after outcome =
        ((called : FrameState) × (head_chunks (call_head m code) ≤ x.chunks) × IsCalledFrame m code given called
        × Replaces w.frame after.frame given [] × (after.inside ≡ w.inside) × (outcome ≡ Calls called))
        ⊎ ((x.chunks < head_chunks (call_head m code)) × RaisesHere w (Raised.Standing Stands.StackOverflowError) after outcome)

    does_agree : (code : LinkedCode) (m : MemberId) (given : List Value) → DoesCode code m given new o → DoesCode code m given other r → Agree
    does_agree code m given (inl p) (inl q) = (
      both (p.4 ∙ sym q.4) (popped w.frame new.frame other.frame given p.3 q.3),
      p.5 ∙ ap Calls (p.2.1 ∙ sym q.2.1) ∙ sym q.5,
    )
    does_agree code m given (inl p) (inr q) = absurd (omega (arith, p.1, q.0))
    does_agree code m given (inr p) (inl q) = absurd (omega (arith, q.1, p.0))
    does_agree code m given (inr p) (inr q) = (p.1.0 ∙ sym q.1.0, p.1.1 ∙ sym q.1.1)

    methods_agree : (m : MemberId) (given : List Value) → RunsMethod x m given w new o → RunsMethod x m given w other r → Agree
    methods_agree m given p q =
        does_agree q.code m given (subst (λ (code : LinkedCode). DoesCode code m given new o) (one_body m given p q) p.does) q.does

    follows_agree : (t : Target) (given : List Value) → FollowsTarget x t given w new o → FollowsTarget x t given w other r → Agree
    follows_agree (Runs m) given p q = methods_agree m given p q
    follows_agree (Fails c) given p q = (p.0 ∙ sym q.0, p.1 ∙ sym q.1)
    follows_agree (Through k m) given p q = (p.0 ∙ sym q.0, p.1 ∙ sym q.1)

    pub call_rows_agree : CallRow x s i w new o → CallRow x s i w other r → Agree
    call_rows_agree p q =
        let one : IsOneCall p.call q.call = one_call p.call q.call in
        follows_agree q.call.target q.call.given
        (subst (λ (t : Target). FollowsTarget x t q.call.given w new o) one.target
        (subst (λ (vs : List Value). FollowsTarget x p.call.target vs w new o) one.given p.follows)) q.follows

    -- a method of the system has no code
    no_code_there : (m : MemberId) (given : List Value) → RunsMethod x m given w new o → (method : MethodRecord) → MethodIs x.classes m method
        → (n : ℕ) → method.body ≡ Does.System n → ⊥
    no_code_there m given p method is n body =
        let same : p.method ≡ method = one_method x.classes m p.method method p.is_method is in
        system_has_none n p.code (sym body ∙ ap (λ (k : MethodRecord). k.body) (sym same) ∙ p.body)

    pub no_system_call : CallRow x s i w new o → CallsSystem x s i w → ⊥
    no_system_call p q =
        let one : IsOneCall p.call q.call = one_call p.call q.call in
        no_code_there q.member p.call.given
        (subst (λ (t : Target). FollowsTarget x t p.call.given w new o) (one.target ∙ q.runs) p.follows) q.method q.is_method q.number q.of_system
