-- Each call leaves no stream in line where no item is kept.
use Rattle.std.proofs.Common.{◌≡◌, ℕ, Bool, true, false, List, [], ◌∷◌, refl, sym, subst}
use Rattle.std.specs.Prelude.{◌&&◌, ◌||◌, not}
use Rattle.std.proofs.lemmas.Bool.{and_parts}
use Rattle.sctp_serial.specs.declared.api.StreamId.{StreamId}
use Rattle.sctp_wire.specs.Parameter.{ParameterTree, outgoing_reset_request, incoming_reset_request, reset_response}
use Rattle.sctp_packet.specs.Chunk.{re_config_chunk}
use Rattle.spec_endpoint.specs.Association.{Tcb, Phase, Open, Context}
use Rattle.spec_endpoint.specs.ResetRequests.{Outcome, Unsettled, Done, Denied, outcome, is_last_request, is_next_request, is_known_request, is_final}
use Rattle.spec_endpoint.specs.StreamReset.{Handling, handling, is_ahead, resets_unless, outgoing_by, incoming_if, on_outcome, is_outgoing, on_parameter, HandledParameters, handle_next, handle_all, send_responses, finish_reconfig_if, on_reconfig}
use Rattle.proof_awake.specs.Invariant.{is_established, waits}
use Rattle.proof_awake.specs.Line.{asks_once}
use Rattle.proof_awake.proofs.CallRowLemmas.{handles_all, responses_go}
use Rattle.proof_awake.proofs.RowLemmas.{Going}
use Rattle.proof_awake.proofs.LineRowLemmas.{Big, Lined, EndLined, big_chunk, buffered_lined}

module _ {P : Type 0} (avoids : Bool) where
  -- ---- RE-CONFIG

  big_resets : (b : Bool) (number last_tsn : ℕ) (streams : List StreamId) (x : Handling P) → Big avoids x.context → Big avoids (resets_unless b number last_tsn streams x).context
  big_resets true number last_tsn streams x h = h
  big_resets false number last_tsn streams x h = h

  big_outgoing : (a b d : Bool) (number last_tsn : ℕ) (streams : List StreamId) (x : Handling P) → Big avoids x.context → Big avoids (outgoing_by a b d number last_tsn streams x).context
  big_outgoing true b true number last_tsn streams x h = h
  big_outgoing true b false number last_tsn streams x h = big_resets (is_ahead last_tsn x.tcb) number last_tsn streams x h
  big_outgoing false true d number last_tsn streams x h = big_resets (is_ahead last_tsn x.tcb) number last_tsn streams x h
  big_outgoing false false d number last_tsn streams x h = h

  big_incoming : (b : Bool) (number : ℕ) (x : Handling P) → Big avoids x.context → Big avoids (incoming_if b number x).context
  big_incoming true number x h = h
  big_incoming false number x h = h

  big_outcome : (o : Outcome) (c : Context P) → Big avoids c → Big avoids (on_outcome o c)
  big_outcome Unsettled c h = h
  big_outcome (Done streams) c h = h
  big_outcome (Denied streams) c h = h

  big_parameter : (p : ParameterTree) (x : Handling P) → Big avoids x.context → Big avoids (on_parameter p x).context
  big_parameter (outgoing_reset_request number response last_tsn streams) x h =
      big_outgoing (is_last_request number x.tcb.requests) (is_next_request number x.tcb.requests) (is_final x.tcb.requests.result) number last_tsn.0 streams x h
  big_parameter (incoming_reset_request number streams) x h = big_incoming (is_known_request number x.tcb.requests) number x h
  big_parameter (reset_response number result sender receiver) x h = big_outcome (outcome number result x.tcb.requests.current) x.context h
  big_parameter p x h = h

  big_next : (b : Bool) (rest : Handling P → HandledParameters P) (p : ParameterTree) (x : Handling P) → ((y : Handling P) → Big avoids y.context → Big avoids (rest y).handling.context)
      → Big avoids x.context → Big avoids (handle_next b rest p x).handling.context
  big_next true rest p x f h = h
  big_next false rest p x f h = f (on_parameter p x) (big_parameter p x h)

  big_all : (ps : List ParameterTree) (b : Bool) (x : Handling P) → Big avoids x.context → Big avoids (handle_all ps b x).handling.context
  big_all [] b x h = h
  big_all (p ∷ ps) b x h = big_next (is_outgoing p && b) (handle_all ps (is_outgoing p || b)) p x (λ y k. big_all ps (is_outgoing p || b) y k) h

  whole : (ps : List ParameterTree) (b : Bool) (x : Handling P) → asks_once b ps ≡ true → (handle_all ps b x).is_whole ≡ true
  whole [] b x e = refl
  whole (p ∷ ps) b x e =
      let a = and_parts (not (is_outgoing p && b)) (asks_once (is_outgoing p || b) ps) e in
      next (is_outgoing p && b) a.0 (λ y. whole ps (is_outgoing p || b) y a.1)
    where
      next : (c : Bool) → not c ≡ true → ((y : Handling P) → (handle_all ps (is_outgoing p || b) y).is_whole ≡ true) → (handle_next c (handle_all ps (is_outgoing p || b)) p x).is_whole ≡ true
      next true n f = cc
      next false n f = f (on_parameter p x)

  big_responses : (rs : List ParameterTree) (t : Tcb) (c : Context P) → Big avoids c → Big avoids (send_responses rs t c)
  big_responses [] t c h = h
  big_responses (r ∷ rs) t c h = big_chunk avoids (re_config_chunk (r ∷ rs)) t c h

  pub reconfig_lined : (ps : List ParameterTree) → asks_once false ps ≡ true → (phase : Phase) (t : Tcb) (c : Context P) → Going avoids phase t c → Lined avoids (Open phase t) c → EndLined avoids (on_reconfig ps phase t c)
  reconfig_lined [] e phase t c h l = l
  reconfig_lined (p ∷ ps) e phase t c h l =
      let x : HandledParameters P = handle_all (p ∷ ps) false (handling t c) in
      let y : Handling P = x.handling in
      let k = handles_all avoids (is_established phase) (waits avoids phase) (p ∷ ps) false (handling t c) (h.0, h.1.1) in
      subst (λ (b : Bool). EndLined avoids (finish_reconfig_if b phase y)) (sym (whole (p ∷ ps) false (handling t c) e))
      (buffered_lined avoids phase y.tcb (send_responses y.responses y.tcb y.context)
      (big_responses y.responses y.tcb y.context (big_all (p ∷ ps) false (handling t c) l.0))
      (responses_go avoids (is_established phase) (waits avoids phase) y.responses y.tcb y.context k.0, (h.1.0, k.1)))
