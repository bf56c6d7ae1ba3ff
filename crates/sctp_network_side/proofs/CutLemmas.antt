-- What a log has, where memory ran out.
use Rattle.std.proofs.Common.{◌≡◌, List, [], ◌++◌, sym, ap, ◌∙◌, append_assoc}
use Rattle.std.specs.Prelude.{Result, Ok, Err, OnErr}
use Rattle.std.proofs.lemmas.List.{append-nil}
use Rattle.spec_world.specs.Observations.{Entry}
use Rattle.sctp_network_side.specs.Interrupted.{IsCut, StopsWithin}
use Rattle.sctp_network_side.specs.Interrupted as stops

-- nothing more came
pub cut_there : (old whole log made left : List Entry) → log ≡ old ++ made → log ++ left ≡ whole → IsCut old whole log
cut_there old whole log made left begun goes_on = record { made = made; left = left; begun = begun; goes_on = sym goes_on }

pub cut_at_once : (old rest log : List Entry) → log ≡ old → IsCut old (old ++ rest) log
cut_at_once old rest log same = cut_there old (old ++ rest) log [] rest (same ∙ sym (append-nil old)) (ap (λ (l : List Entry). l ++ rest) same)

-- this part is logged
pub cut_behind : (old longer part rest log : List Entry) → longer ≡ old ++ part → IsCut longer (longer ++ rest) log → IsCut old (old ++ (part ++ rest)) log
cut_behind old longer part rest log grown c = record {
  made = part ++ c.made;
  left = c.left;
  begun = c.begun ∙ ap (λ (l : List Entry). l ++ c.made) grown ∙ append_assoc old part c.made;
  goes_on = sym (append_assoc old part rest) ∙ ap (λ (l : List Entry). l ++ rest) (sym grown) ∙ c.goes_on;
}

-- this one isn't
pub cut_before : (old part rest log : List Entry) → IsCut old (old ++ part) log → IsCut old (old ++ (part ++ rest)) log
cut_before old part rest log c = record {
  made = c.made;
  left = c.left ++ rest;
  begun = c.begun;
  goes_on = sym (append_assoc old part rest) ∙ ap (λ (l : List Entry). l ++ rest) c.goes_on ∙ append_assoc log c.left rest;
}

-- a loop logs this too
pub more_made : (old longer log part : List Entry) → (made : List Entry) × (longer ≡ old ++ made) → log ≡ longer ++ part → (made : List Entry) × (log ≡ old ++ made)
more_made old longer log part begun e = (begun.0 ++ part, e ∙ (ap (λ (l : List Entry). l ++ part) begun.1 ∙ append_assoc old begun.0 part))

pub stops_as : (P Q : List Entry → Type 0) (old log : List Entry) → ((whole : List Entry) → P whole → Q whole) → StopsWithin P old log → StopsWithin Q old log
stops_as P Q old log f (stops.unlogged same) = stops.unlogged same
stops_as P Q old log f (stops.begun whole p cut) = stops.begun whole (f whole p) cut

pub when_err : {T E P : Type 0} (result : Result T E) → P → OnErr result P
when_err (Ok x) p = tt
when_err (Err e) p = p
