-- What bytes begin with is all of them where nothing follows it, and else the bytes before a place.
use Rattle.std.proofs.Common.{◌≡◌, ◌≢◌, ℕ, ◌+◌, ◌-◌, ◌<◌, List, [], ◌++◌, length, take, sym, ap, subst, ◌∙◌, append-nil, arith}
use Rattle.std.proofs.lemmas.List.{length-append, take_at}
use Rattle.jk_model.proofs.EmptyByLength.{length_from_not_nil}
use Rattle.class_reader.specs.Answers.{BeginsWith}

pub front_long : {Is : List ℕ → Type 0} {bytes rest : List ℕ} (b : BeginsWith Is bytes rest) → length bytes ≡ length b.front + length rest
front_long {rest = rest} b = ap length b.parts ∙ length-append b.front rest

pub is_all : {Is : List ℕ → Type 0} {bytes rest : List ℕ} → BeginsWith Is bytes rest → rest ≡ [] → Is bytes
is_all {Is = Is} b none = subst Is (sym (b.parts ∙ ap (λ (w : List ℕ). b.front ++ w) none ∙ append-nil b.front)) b.is

pub ends_within : {Is : List ℕ → Type 0} {bytes rest : List ℕ} → BeginsWith Is bytes rest → rest ≢ []
    → (length bytes - length rest < length bytes) × Is (take (length bytes - length rest) bytes)
ends_within {Is = Is} {bytes = bytes} {rest = rest} b some =
    let n = length bytes - length rest in
    let place : length b.front ≡ n = omega (arith, front_long b) in
    let front : b.front ≡ take n bytes = sym (ap (take n) b.parts ∙ take_at b.front rest n place) in
    (omega (arith, front_long b, length_from_not_nil rest some), subst Is front b.is)
