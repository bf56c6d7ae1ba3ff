-- A message that a channel hands out as it came.
use Rattle.std.proofs.Common.{◌≡◌, ℕ, ◌+◌, ◌==◌, nat_le, nat_lt, Bool, true, false, not, ◌&&◌, ◌||◌, cond, Option, None, Some, List, [], ◌∷◌, ◌++◌, length, refl, sym, ap, subst, ◌∙◌, arith}
use Rattle.std.specs.Prelude.{option_map, unwrap_or}
use Rattle.std.proofs.lemmas.Bool.{and_parts, eqb-true, le-ltb, leb-true, not-true}
use Rattle.std.proofs.lemmas.List.{nil_from_length}
use Rattle.std.specs.BTreeMap.{is_at}
use Rattle.std.specs.Map.{set_value}
use Rattle.std.specs.Ordering.{nat_cmp}
use Rattle.sctp_channels.specs.declared.payload.PayloadKind.{PayloadKind}
use Rattle.sctp_channels.specs.declared.payload.PayloadProtocol.{PayloadProtocol}
use Rattle.sctp_channels.specs.declared.payload.PayloadProtocol.TheVariants.{Data}
use Rattle.sctp_channels.specs.Channel.{Channel, change_lifecycle, count_received, exceeds, on_data, take_if, taken_if, takes_whole, with_parts}
use Rattle.sctp_channels.specs.Channels.{Channels, OnMessage, change, data_from, deliver, emit, hand, on_payload, tell_begin, tell_message, tell_refused, with_entries}
use Rattle.sctp_channels.specs.declared.output.Refusal.TheVariants.{NoChannel}
use Rattle.sctp_channels.specs.Entries.{channel_at, changed_from}
use Rattle.sctp_channels.specs.Lifecycle.{confirm, is_connecting, takes_data}
use Rattle.sctp_channels.specs.Payload.{protocol_of}
use Rattle.sctp_channels.specs.Steps.{DataChannels, Follows, of_channels, with_channels, with_outputs}
use Rattle.sctp_channels.proofs.FollowsLemmas.{done_at_once, follows_carried, follows_gets, follows_then}
use Rattle.sctp_channels.proofs.StandsLemmas.{confirm_from}

record IsWhole (limit size : ℕ) (c : Channel) : Type 0 where
  is_open : is_connecting c.lifecycle ≡ false
  takes : takes_data c.lifecycle ≡ true
  parts : c.parts ≡ []
  fits : exceeds limit size c ≡ false

whole_of : (limit size : ℕ) (c : Channel) → takes_whole limit size c ≡ true → IsWhole limit size c
whole_of limit size c is =
    let one = and_parts (not (is_connecting c.lifecycle)) (takes_data c.lifecycle && (not c.is_too_long && ((length c.parts == 0) && nat_le size limit))) is in
    let two = and_parts (takes_data c.lifecycle) (not c.is_too_long && ((length c.parts == 0) && nat_le size limit)) one.1 in
    let three = and_parts (not c.is_too_long) ((length c.parts == 0) && nat_le size limit) two.1 in
    let four = and_parts (length c.parts == 0) (nat_le size limit) three.1 in
    let none : length c.parts ≡ 0 = eqb-true (length c.parts) 0 four.0 in
    record {
      is_open = not-true (is_connecting c.lifecycle) one.0;
      takes = two.0;
      parts = nil_from_length c.parts none;
      fits = ap (λ (b : Bool). b || nat_lt limit (length c.parts + size)) (not-true c.is_too_long three.0)
          ∙ le-ltb limit (length c.parts + size) (omega (arith, leb-true size limit four.1, none));
    }

-- what is left of the channel
left : (limit : ℕ) (kind : PayloadKind) (bytes : List ℕ) (c : Channel) → IsWhole limit (length bytes) c → on_data limit (Data kind) bytes c ≡ count_received (length bytes) c
left limit kind bytes c w =
    ap (λ (b : Bool). take_if b bytes c) w.fits
    ∙ ap (λ (parts : List ℕ). count_received (length (parts ++ bytes)) (with_parts [] c.is_too_long c)) w.parts
    ∙ sym (ap (λ (parts : List ℕ). count_received (length bytes) (with_parts parts c.is_too_long c)) w.parts)

changed_alike : (f g : Channel → Channel) (id : ℕ) (c : Channel) (cs : Channels) → channel_at id cs.entries ≡ Some c → f c ≡ g c → change f id cs ≡ change g id cs
changed_alike f g id c cs found same =
    ap (λ (o : Option Channel). with_entries (changed_from o f id cs.entries) cs) found
    ∙ ap (λ (d : Channel). with_entries (set_value (is_at (nat_cmp id)) cs.entries d) cs) same
    ∙ sym (ap (λ (o : Option Channel). with_entries (changed_from o g id cs.entries) cs) found)

delivered : (id : ℕ) (kind : PayloadKind) (bytes : List ℕ) (c : Channel) (cs : Channels) → channel_at id cs.entries ≡ Some c → IsWhole cs.limit (length bytes) c
    → data_from (Some c) id (Data kind) bytes cs ≡ emit (tell_message id kind bytes) (change (count_received (length bytes)) id cs)
delivered id kind bytes c cs found w =
    let next = change (on_data cs.limit (Data kind) bytes) id cs in
    ap (λ (b : Bool). cond b (hand (taken_if (exceeds cs.limit (length bytes) c) kind bytes c) id next) (emit (tell_refused id NoChannel) cs)) w.takes
    ∙ ap (λ (b : Bool). hand (taken_if b kind bytes c) id next) w.fits
    ∙ ap (λ (parts : List ℕ). emit (tell_message id kind (parts ++ bytes)) next) w.parts
    ∙ ap (emit (tell_message id kind bytes)) (changed_alike (on_data cs.limit (Data kind) bytes) (count_received (length bytes)) id c cs found (left cs.limit kind bytes c w))

handed_from : (o : Option Channel) (id : ℕ) (kind : PayloadKind) (bytes : List ℕ) (cs : Channels) → channel_at id cs.entries ≡ o
    → option_map (takes_whole cs.limit (length bytes)) o ≡ Some true → on_payload id (Data kind) bytes cs ≡ emit (tell_message id kind bytes) (change (count_received (length bytes)) id cs)
handed_from None id kind bytes cs found is = cc
handed_from (Some c) id kind bytes cs found is =
    let w = whole_of cs.limit (length bytes) c (ap (λ (o : Option Bool). unwrap_or o false) is) in
    ap (λ (o : Option Channel). deliver id (Data kind) bytes (confirm_from o id cs)) found
    ∙ ap (λ (b : Bool). deliver id (Data kind) bytes (cond b (tell_begin c.lifecycle id (change (change_lifecycle confirm) id cs)) cs)) w.is_open
    ∙ ap (λ (o : Option Channel). data_from o id (Data kind) bytes cs) found
    ∙ delivered id kind bytes c cs found w

-- it was counted and told at once, where nothing was to be done
told_whole : (id : ℕ) (kind : PayloadKind) (bytes : List ℕ) (d c e : DataChannels) → d.channels.outputs ≡ []
    → option_map (takes_whole d.channels.limit (length bytes)) (channel_at id d.channels.entries) ≡ Some true → c ≡ with_channels (change (count_received (length bytes)) id d.channels) d
    → e ≡ record c { events = c.events ++ of_channels (tell_message id kind bytes) ∷ [] } → e ≡ with_outputs (with_channels (on_payload id (Data kind) bytes d.channels) d)
told_whole id kind bytes d c e none is row told =
    let m = tell_message id kind bytes in
    let counted = with_channels (change (count_received (length bytes)) id d.channels) d in
    done_at_once id kind bytes counted e none (told ∙ ap (λ (x : DataChannels). record x { events = x.events ++ of_channels m ∷ [] }) row)
    ∙ ap (λ (cs : Channels). with_outputs (with_channels cs d)) (sym (handed_from (channel_at id d.channels.entries) id kind bytes d.channels refl is))

-- the message was got, and what was to be done for it was done
pub follows_whole : (id ppid : ℕ) (kind : PayloadKind) (bytes : List ℕ) (size : ℕ) (d c e : DataChannels) → Some (Data kind) ≡ protocol_of ppid → size ≡ length bytes
    → d.channels.outputs ≡ [] → option_map (takes_whole d.channels.limit size) (channel_at id d.channels.entries) ≡ Some true
    → c ≡ with_channels (change (count_received size) id d.channels) d → e ≡ record c { events = c.events ++ of_channels (tell_message id kind bytes) ∷ [] } → Follows d e
follows_whole id ppid kind bytes size d c e found same none is row told =
    let cs = on_payload id (Data kind) bytes d.channels in
    let is_too = ap (λ (n : ℕ). option_map (takes_whole d.channels.limit n) (channel_at id d.channels.entries)) (sym same) ∙ is in
    let row_too = row ∙ ap (λ (n : ℕ). with_channels (change (count_received n) id d.channels) d) same in
    follows_then d (with_channels cs d) e
    (follows_gets (record { stream = id; ppid = ppid; payload = bytes }) d (with_channels cs d)
    (record { channels = cs; row = subst (λ (o : Option PayloadProtocol). OnMessage o id bytes d.channels cs) found refl; done = refl }))
    (follows_carried (with_channels cs d) e (told_whole id kind bytes d c e none is_too row_too told))
