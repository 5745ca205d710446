-- What calls of the files leave one after the other.
use Rattle.std.proofs.Common.{◌≡◌, ◌≢◌, ℕ, ◌^◌, ◌<◌, List, [], ◌++◌, length, Option, Result, Ok, Err, IfOk, refl, sym, ap, ◌∙◌, subst, append_assoc, append-nil, arith, length-append}
use Rattle.std.specs.Result.{IsErrAnd}
use Rattle.std.proofs.lemmas.List.{nil_from_length}
use Rattle.std.proofs.lemmas.Result.{err_from_is_err_and}
use Rattle.jk_model.specs.Outside.{Ask, Tree}
use Rattle.jk_model.proofs.CountsNeverFall.{NeverFalls-after, NeverFalls-refl}
use Rattle.jk_model.proofs.EachItem.{all_append}
use Rattle.folder_reader.specs.Calls.{Moves}
use Rattle.folder_reader.specs.FolderAnswers.{AsksWithin}

pub no_move : (root : List ℕ) (t : Option Tree) (n k : ℕ) (asked : List Ask) → n < 2 ^ 64 → k < 2 ^ 64 → Moves root t t n n k k asked asked
no_move root t n k asked fn fk =
    record { stays = refl; faults = NeverFalls-refl n fn; taken = NeverFalls-refl k fk; asks = ([], sym (append-nil asked), tt) }

pub moves_on : (root : List ℕ) (t t' t'' : Option Tree) (n n' n'' k k' k'' : ℕ) (a a' a'' : List Ask)
    → Moves root t t' n n' k k' a a' → Moves root t' t'' n' n'' k' k'' a' a'' → Moves root t t'' n n'' k k'' a a''
moves_on root t t' t'' n n' n'' k k' k'' a a' a'' first second = record {
  stays = second.stays ∙ first.stays;
  faults = NeverFalls-after n n' n'' first.faults second.faults;
  taken = NeverFalls-after k k' k'' first.taken second.taken;
  asks = (
    first.asks.0 ++ second.asks.0,
    second.asks.1 ∙ ap (λ (x : List Ask). x ++ second.asks.0) first.asks.1 ∙ append_assoc a first.asks.0 second.asks.0,
    all_append (AsksWithin root) first.asks.0 second.asks.0 first.asks.2 second.asks.2,
  );
}

-- where the second of two calls asked for something, both together did
pub asked_since : (root : List ℕ) (t t' t'' : Option Tree) (n n' n'' k k' k'' : ℕ) (a a' a'' : List Ask)
    → Moves root t t' n n' k k' a a' → Moves root t' t'' n' n'' k' k'' a' a'' → a'' ≢ a' → a'' ≢ a
asked_since root t t' t'' n n' n'' k k' k'' a a' a'' first second other = λ same.
    let before = first.asks.0 in
    let after = second.asks.0 in
    let all = sym same ∙ second.asks.1 ∙ ap (λ (x : List Ask). x ++ after) first.asks.1 in
    let longer = length-append (a ++ before) after in
    let long = length-append a before in
    let as_long = ap length all in
    let none = nil_from_length after (omega (arith, longer, long, as_long)) in
    other (second.asks.1 ∙ ap (λ (x : List Ask). a' ++ x) none ∙ append-nil a')

-- an error that is handed on is the one that came
pub handed_on : {T U E : Type 0} (r : Result T E) (e y : E) (s : Result U E) → IsErrAnd r (λ z. z ≡ e) → r ≡ Err y → s ≡ Err e → s ≡ Err y
handed_on r e y s h is came =
    let p = err_from_is_err_and r h in
    let from : r ≡ Err p.0 = p.1 in
    let same : p.0 ≡ e = p.2 in
    cc

pub err_inner : {T E : Type 0} (x y : E) (r : Result T E) → r ≡ Err x → r ≡ Err y → x ≡ y
err_inner x y r e f = cc

pub if_ok_later : {T E : Type 0} (r : Result T E) (P : T → Type 0) (Q : Type 0) → IfOk r P → IfOk r (λ x. Q → P x)
if_ok_later (Ok x) P Q h = λ q. h
if_ok_later (Err e) P Q h = tt

-- what holds of a tree and a list holds of others that are the same
pub moved : {X : Type 0} (P : Option Tree → List X → Type 0) (t t' : Option Tree) (xs ys : List X) → t' ≡ t → ys ≡ xs → P t xs → P t' ys
moved P t t' xs ys a b h = subst (λ (u : Option Tree). P u ys) (sym a) (subst (P t) (sym b) h)

pub moved_back : {X : Type 0} (P : Option Tree → List X → Type 0) (t t' : Option Tree) (xs ys : List X) → t' ≡ t → ys ≡ xs → P t' ys → P t xs
moved_back P t t' xs ys a b h = subst (λ (u : Option Tree). P u xs) a (subst (P t') b h)
