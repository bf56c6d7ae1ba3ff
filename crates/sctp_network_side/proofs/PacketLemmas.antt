-- Packets from a place on.
use Rattle.std.proofs.Common.{◌≡◌, ℕ, ◌-◌, List, length, drop, map, sym, ap, subst, ◌∙◌, arith}
use Rattle.std.specs.List.{slice_range}
use Rattle.std.proofs.lemmas.List.{take_all, drop-map, length-drop}
use Rattle.sctp_packet.specs.Grammar.{Each}
use Rattle.spec_endpoint.specs.Wire.{AreBytes}

pub from_place : {X : Type 0} (f : X → List ℕ) (held xs part : List X) (first : ℕ) (packets : List (List ℕ)) → xs ≡ held → map f held ≡ packets
    → part ≡ slice_range xs first (length xs) → Each AreBytes (map f part) → Each AreBytes (drop first packets)
from_place f held xs part first packets is shown range h =
    let whole : part ≡ drop first xs = range ∙ take_all (length xs - first) (drop first xs) (omega (arith, length-drop first xs)) in
    subst (Each AreBytes)
    (ap (map f) whole ∙ (sym (drop-map f first xs) ∙ ap (drop first) (ap (map f) is ∙ shown))) h
