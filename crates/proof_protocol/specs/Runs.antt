-- One run of each machine, in which something is lost, overtaken and given up.
use Rattle.std.specs.Prelude.{ℕ, zero, suc, true, false, List, [], ◌∷◌}
use Rattle.proof_protocol.specs.State.{Message, ForwardPoint}
use Rattle.proof_protocol.specs.Rules.{TransferEvent, accept, begin, number, end_with_placeholder, give_up, data_comes, late_comes, become_ready, send_sack, acknowledge_next, send_forward, forward_comes}
use Rattle.proof_protocol.specs.Resets.{Request, ResetEvent, transfers, reset_stream, send_request, perform, commit}

-- ---- DATA: two ordered messages of stream 0 and an unordered one of stream 1
abbrev pub three : ℕ → Message
three zero = record { stream = 0; ordered = true; protocol_id = 50; payload = 1 ∷ 2 ∷ [] }
three (suc zero) = record { stream = 0; ordered = true; protocol_id = 51; payload = 3 ∷ [] }
three (suc (suc n)) = record { stream = 1; ordered = false; protocol_id = 52; payload = 4 ∷ [] }

abbrev pub over_two : ForwardPoint
over_two = record { upto = 2; entries = record { ordered = true; stream = 0; number = 0; written = 0 } ∷ [] }

-- of message 0 the first fragment comes and the second is lost; messages 1 and 2 overtake it; it is given up
abbrev pub plain_run : List TransferEvent
plain_run =
    accept ∷ accept ∷ accept ∷ begin 0 ∷ number 0 (1 ∷ []) (2 ∷ []) ∷ number 0 (2 ∷ []) [] ∷ begin 1 ∷ number 1 (3 ∷ []) [] ∷ begin 2 ∷ number 2 (4 ∷ []) []
    ∷ data_comes 2 ∷ data_comes 3 ∷ become_ready 2 ∷ data_comes 0 ∷ send_sack 1 ∷ acknowledge_next 1 ∷ give_up 0 ∷ send_forward over_two ∷ forward_comes over_two ∷ become_ready 1
    ∷ send_sack 4 ∷ acknowledge_next 4 ∷ acknowledge_next 4 ∷ acknowledge_next 4 ∷ []

-- ---- I-DATA: two ordered messages of stream 1, and between their fragments one of stream 2
abbrev pub woven : ℕ → Message
woven zero = record { stream = 1; ordered = true; protocol_id = 50; payload = 1 ∷ 2 ∷ 2 ∷ [] }
woven (suc zero) = record { stream = 2; ordered = true; protocol_id = 51; payload = 3 ∷ [] }
woven (suc (suc n)) = record { stream = 1; ordered = true; protocol_id = 52; payload = 5 ∷ [] }

-- message 0 is named by each point, also by the one that stops within it
abbrev pub over : ℕ → ForwardPoint
over upto = record { upto = upto; entries = record { ordered = true; stream = 1; number = 0; written = 0 } ∷ [] }

-- message 0 is given up when two of its three bytes were sent: its first fragment is lost, and its second comes late
abbrev pub woven_run : List TransferEvent
woven_run =
    accept ∷ accept ∷ accept ∷ begin 0 ∷ number 0 (1 ∷ []) (2 ∷ 2 ∷ []) ∷ begin 1 ∷ number 1 (3 ∷ []) [] ∷ number 0 (2 ∷ []) (2 ∷ []) ∷ end_with_placeholder 0 ∷ give_up 0
    ∷ begin 2 ∷ number 2 (5 ∷ []) [] ∷ send_forward (over 1) ∷ forward_comes (over 1) ∷ late_comes 2 ∷ data_comes 4 ∷ become_ready 2 ∷ data_comes 1 ∷ become_ready 1
    ∷ send_sack 3 ∷ acknowledge_next 3 ∷ acknowledge_next 3 ∷ acknowledge_next 3 ∷ send_forward (over 4) ∷ forward_comes (over 4) ∷ send_sack 5 ∷ acknowledge_next 5 ∷ acknowledge_next 5 ∷ []

-- ---- resets: of three messages of stream 0 the first is sent, the second dropped by a reset, and the third accepted after it
abbrev pub alike : ℕ → Message
alike p = record { stream = 0; ordered = true; protocol_id = 53; payload = p ∷ [] }

abbrev pub request : Request
request = record { stream = 0; upto = 1; epoch = 1 }

abbrev pub reset_run : List ResetEvent
reset_run =
    transfers accept ∷ transfers accept ∷ transfers (begin 0) ∷ transfers (number 0 (0 ∷ []) []) ∷ reset_stream 0 ∷ transfers (give_up 1) ∷ transfers accept
    ∷ send_request 0 ∷ transfers (data_comes 0) ∷ transfers (become_ready 0) ∷ perform request ∷ commit 0
    ∷ transfers (begin 2) ∷ transfers (number 2 (2 ∷ []) []) ∷ transfers (data_comes 1) ∷ transfers (become_ready 2) ∷ []

-- ---- a reset that waits, without interleaving: of an unordered message of stream 1 the first fragment is passed by a point that ends
-- at the breakpoint of a request for stream 2; its second one comes and is held, though the message can't become ready any more
abbrev pub loose : ℕ → Message
loose zero = record { stream = 1; ordered = false; protocol_id = 53; payload = 1 ∷ 2 ∷ [] }
loose (suc n) = record { stream = 3; ordered = true; protocol_id = 53; payload = 4 ∷ [] }

abbrev pub upto_one : ForwardPoint
upto_one = record { upto = 1; entries = [] }

abbrev pub upto_three : ForwardPoint
upto_three = record { upto = 3; entries = record { ordered = true; stream = 3; number = 0; written = 0 } ∷ [] }

abbrev pub loose_run : List ResetEvent
loose_run =
    transfers accept ∷ transfers (begin 0) ∷ transfers (number 0 (1 ∷ []) (2 ∷ [])) ∷ reset_stream 2 ∷ send_request 2 ∷ transfers (number 0 (2 ∷ []) [])
    ∷ transfers (give_up 0) ∷ transfers (send_forward upto_one) ∷ transfers (forward_comes upto_one) ∷ reset_stream 1 ∷ send_request 1 ∷ transfers (data_comes 1)
    ∷ transfers (send_sack 2) ∷ transfers (acknowledge_next 2) ∷ transfers (acknowledge_next 2) ∷ transfers accept ∷ transfers (begin 1) ∷ transfers (number 1 (4 ∷ []) [])
    ∷ transfers (give_up 1) ∷ transfers (send_forward upto_three) ∷ []
