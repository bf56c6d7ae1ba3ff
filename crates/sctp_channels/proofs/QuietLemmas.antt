-- Rows of the table that tell no message, and leave no message in parts.
use Rattle.std.proofs.Common.{◌≡◌, ℕ, ◌==◌, cond, Bool, true, false, Option, Some, None, List, [], ◌∷◌, ◌++◌, map, refl, ap, subst, ◌∙◌}
use Rattle.std.specs.Prelude.{All, IfSome}
use Rattle.std.specs.BTreeMap.{is_at}
use Rattle.std.specs.List.{flat_map}
use Rattle.std.specs.Map.{values_of}
use Rattle.std.specs.Ordering.{nat_cmp}
use Rattle.std.proofs.lemmas.Grind.{flat_map-append}
use Rattle.std.proofs.lemmas.List.{append-nil}
use Rattle.std.proofs.lemmas.List.Elements.{All-nil}
use Rattle.std.proofs.lemmas.Map.Views.{All-map-remove_entry, All-values-insert_entry, All-values-set_value, IfSome-lookup_from_All}
use Rattle.sctp_channels.specs.Channel.{Channel, change_lifecycle, kept_by, new_channel, reset_incoming, with_lifecycle}
use Rattle.sctp_channels.specs.Channels.{Channels, Output, acknowledge, change, close, denied, drain, emit, end, end_missing, has_room, has_stream, incoming_reset_from, is_denied, is_own, is_shown, no_description, on_ack, on_establishment, on_incoming_reset, on_open, on_reset_denied, on_reset_performed, open_from, place, prioritize, refuse, reopen_if, reset, reset_in_turn, settle, shown_streams, take_open, tell_begin, tell_closed, tell_end, tell_opened, tell_refused, turn_down, turn_down_from, weigh, where_there, with_entries}
use Rattle.sctp_channels.specs.Steps.{each}
use Rattle.sctp_channels.proofs.StandsLemmas.{confirm_from}
use Rattle.sctp_channels.specs.Entries.{Entries, channel_at, changed_from, forget, put}
use Rattle.sctp_channels.specs.Lifecycle as life
use Rattle.sctp_channels.specs.Message.{Establishment, Open, opens, acknowledges}
use Rattle.sctp_channels.specs.TwoEnds.{AreWhole, HasNoParts, message_in}
use Rattle.sctp_channels.specs.Runs.{Content}
use Rattle.sctp_channels.specs.declared.lifecycle.Lifecycle.{Lifecycle}
use Rattle.sctp_channels.specs.declared.output.Refusal.{Refusal}
use Rattle.sctp_channels.specs.declared.output.Refusal.TheVariants.{NoRoom, NoSuchStream, StreamInUse, WrongParity}

pub record IsQuiet (old new : Channels) : Type 0 where
  pub limit : new.limit ≡ old.limit
  pub whole : AreWhole old → AreWhole new
  pub told : flat_map message_in new.outputs ≡ flat_map message_in old.outputs

same : (cs : Channels) → IsQuiet cs cs
same cs = record { limit = refl; whole = λ w. w; told = refl }

pub and_then : (a b c : Channels) → IsQuiet a b → IsQuiet b c → IsQuiet a c
and_then a b c q r = record { limit = r.limit ∙ q.limit; whole = λ w. r.whole (q.whole w); told = r.told ∙ q.told }

pub emits : (o : Output) (cs : Channels) → message_in o ≡ [] → IsQuiet cs (emit o cs)
emits o cs none = record {
  limit = refl;
  whole = λ w. w;
  told = flat_map-append message_in cs.outputs (o ∷ [])
      ∙ ap (λ (m : List Content). flat_map message_in cs.outputs ++ (m ++ [])) none
      ∙ append-nil (flat_map message_in cs.outputs);
}

either : (b : Bool) (old x y : Channels) → IsQuiet old x → IsQuiet old y → IsQuiet old (cond b x y)
either true old x y q r = q
either false old x y q r = r

-- ---- entries

pub at_place : (id : ℕ) (es : Entries) (o : Option Channel) → channel_at id es ≡ o → All HasNoParts (values_of es) → IfSome o HasNoParts
at_place id es o is whole = subst (λ (p : Option Channel). IfSome p HasNoParts) is (IfSome-lookup_from_All HasNoParts (is_at (nat_cmp id)) es whole)

whole_changed : (o : Option Channel) (f : Channel → Channel) (id : ℕ) (es : Entries) → ((c : Channel) → HasNoParts c → HasNoParts (f c)) → IfSome o HasNoParts
    → All HasNoParts (values_of es) → All HasNoParts (values_of (changed_from o f id es))
whole_changed None f id es keeps there whole = whole
whole_changed (Some c) f id es keeps there whole = All-values-set_value (is_at (nat_cmp id)) HasNoParts es (f c) whole (keeps c there)

pub changes : (f : Channel → Channel) (id : ℕ) (cs : Channels) → ((c : Channel) → HasNoParts c → HasNoParts (f c)) → IsQuiet cs (change f id cs)
changes f id cs keeps = record {
  limit = refl;
  whole = λ w. whole_changed (channel_at id cs.entries) f id cs.entries keeps (at_place id cs.entries (channel_at id cs.entries) refl w) w;
  told = refl;
}

puts : (l : Lifecycle) (description : Open) (id : ℕ) (cs : Channels) → IsQuiet cs (with_entries (put id (new_channel l description) cs.entries) cs)
puts l description id cs = record {
  limit = refl;
  whole = λ w. All-values-insert_entry nat_cmp id (new_channel l description) HasNoParts cs.entries w (record { parts = refl; is_whole = refl });
  told = refl;
}

forgets : (id : ℕ) (cs : Channels) → IsQuiet cs (with_entries (forget id cs.entries) cs)
forgets id cs = record { limit = refl; whole = λ w. All-map-remove_entry (is_at (nat_cmp id)) (λ e. e.1) HasNoParts cs.entries w; told = refl }

-- a lifecycle has no part in it
keeps_parts : (l : Lifecycle) (c : Channel) → HasNoParts c → HasNoParts (with_lifecycle l c)
keeps_parts l c h = record { parts = h.parts; is_whole = h.is_whole }

-- ---- rows

pub closes : (id : ℕ) (cs : Channels) → IsQuiet cs (close id cs)
closes id cs = changes (change_lifecycle life.close) id cs (λ c h. keeps_parts (life.close c.lifecycle) c h)

turns_down_from : (o : Option Channel) (id : ℕ) (why : Refusal) (cs : Channels) → IsQuiet cs (turn_down_from o id why cs)
turns_down_from None id why cs =
    let kept = cond (has_stream id cs) (refuse id cs) cs in
    and_then cs kept (turn_down_from None id why cs) (either (has_stream id cs) cs (refuse id cs) cs (puts life.refused no_description id cs) (same cs))
    (emits (tell_refused id why) kept refl)
turns_down_from (Some c) id why cs = and_then cs (close id cs) (turn_down_from (Some c) id why cs) (closes id cs) (emits (tell_refused id why) (close id cs) refl)

pub turns_down : (id : ℕ) (why : Refusal) (cs : Channels) → IsQuiet cs (turn_down id why cs)
turns_down id why cs = turns_down_from (channel_at id cs.entries) id why cs

weighs : (id priority : ℕ) (cs : Channels) → IsQuiet cs (weigh id priority cs)
weighs id priority cs = either (priority == 0) cs cs (emit (prioritize id priority) cs) (same cs) (emits (prioritize id priority) cs refl)

places : (l : Lifecycle) (description : Open) (id : ℕ) (cs : Channels) → IsQuiet cs (place id l description cs)
places l description id cs =
    let there = with_entries (put id (new_channel l description) cs.entries) cs in
    and_then cs there (place id l description cs) (puts l description id cs) (weighs id description.priority there)

takes_open : (id : ℕ) (description : Open) (l : Lifecycle) (cs : Channels) → IsQuiet cs (take_open id description l cs)
takes_open id description l cs =
    let answered = emit (acknowledge id) cs in
    let told = emit (tell_opened id) answered in
    and_then cs answered (take_open id description l cs) (emits (acknowledge id) cs refl)
    (and_then answered told (take_open id description l cs) (emits (tell_opened id) answered refl) (places l description id told))

opens_if : (room : Bool) (id : ℕ) (description : Open) (l : Lifecycle) (old cs : Channels) → IsQuiet old cs → IsQuiet old (cond room (take_open id description l cs) (turn_down id NoRoom old))
opens_if true id description l old cs quiet = and_then old cs (take_open id description l cs) quiet (takes_open id description l cs)
opens_if false id description l old cs quiet = turns_down id NoRoom old

tells_end : (l : Lifecycle) (id : ℕ) (cs : Channels) → IsQuiet cs (tell_end l id cs)
tells_end l id cs = either (is_shown l) cs (emit (tell_closed id) cs) cs (emits (tell_closed id) cs refl) (same cs)

reopens_if : (b : Bool) (l : Lifecycle) (before id : ℕ) (description : Open) (cs : Channels) → IsQuiet cs (reopen_if b l before id description cs)
reopens_if true l before id description cs =
    opens_if (has_room before description cs) id description life.reopened cs (tell_end l id cs) (tells_end l id cs)
reopens_if false l before id description cs = turns_down id StreamInUse cs

opens_from : (o : Option Channel) (id : ℕ) (description : Open) (cs : Channels) → IsQuiet cs (open_from o id description cs)
opens_from None id description cs = opens_if (has_room 0 description cs) id description life.negotiated cs cs (same cs)
opens_from (Some c) id description cs = reopens_if (life.may_reopen c.lifecycle) c.lifecycle (kept_by c) id description cs

on_opening : (id : ℕ) (description : Open) (cs : Channels) → IsQuiet cs (on_open id description cs)
on_opening id description cs =
    either (has_stream id cs) cs (cond (is_own cs.is_client id) (turn_down id WrongParity cs) (open_from (channel_at id cs.entries) id description cs))
    (emit (tell_refused id NoSuchStream) cs)
    (either (is_own cs.is_client id) cs (turn_down id WrongParity cs) (open_from (channel_at id cs.entries) id description cs) (turns_down id WrongParity cs)
    (opens_from (channel_at id cs.entries) id description cs)) (emits (tell_refused id NoSuchStream) cs refl)

tells_begin : (l : Lifecycle) (id : ℕ) (cs : Channels) → IsQuiet cs (tell_begin l id cs)
tells_begin l id cs = either (life.may_send l) cs (emit (tell_opened id) cs) cs (emits (tell_opened id) cs refl) (same cs)

confirms : (l : Lifecycle) (id : ℕ) (cs : Channels) → IsQuiet cs (tell_begin l id (change (change_lifecycle life.confirm) id cs))
confirms l id cs =
    let confirmed = change (change_lifecycle life.confirm) id cs in
    and_then cs confirmed (tell_begin l id confirmed) (changes (change_lifecycle life.confirm) id cs (λ c h. keeps_parts (life.confirm c.lifecycle) c h)) (tells_begin l id confirmed)

confirms_from : (o : Option Channel) (id : ℕ) (cs : Channels) → IsQuiet cs (confirm_from o id cs)
confirms_from None id cs = same cs
confirms_from (Some c) id cs =
    either (life.is_connecting c.lifecycle) cs (tell_begin c.lifecycle id (change (change_lifecycle life.confirm) id cs)) cs (confirms c.lifecycle id cs) (same cs)

pub acknowledged : (id : ℕ) (cs : Channels) → IsQuiet cs (on_ack id cs)
acknowledged id cs = confirms_from (channel_at id cs.entries) id cs

pub establishes : (id : ℕ) (m : Establishment) (cs : Channels) → IsQuiet cs (on_establishment id m cs)
establishes id (opens description) cs = on_opening id description cs
establishes id acknowledges cs = acknowledged id cs

abbrev settle_from : Option Channel → (Channel → Channel) → ℕ → Channels → Channels
settle_from o f id cs = where_there o (λ c. settle f c id cs) cs

settles_from : (o : Option Channel) (f : Channel → Channel) (id : ℕ) (cs : Channels) → ((c : Channel) → HasNoParts c → HasNoParts (f c)) → IsQuiet cs (settle_from o f id cs)
settles_from None f id cs keeps = same cs
settles_from (Some c) f id cs keeps =
    let gone = with_entries (forget id cs.entries) cs in
    either (life.is_over (f c).lifecycle) cs (tell_end (f c).lifecycle id gone) (change f id cs)
    (and_then cs gone (tell_end (f c).lifecycle id gone) (forgets id cs) (tells_end (f c).lifecycle id gone)) (changes f id cs keeps)

resets_in_turn : (id : ℕ) (cs : Channels) → IsQuiet cs (reset_in_turn id cs)
resets_in_turn id cs =
    let there = refuse id cs in
    either (has_stream id cs) cs (change reset_incoming id there) cs
    (and_then cs there (change reset_incoming id there) (puts life.refused no_description id cs) (changes reset_incoming id there (λ x h. record { parts = refl; is_whole = refl }))) (same cs)

resets_from : (o : Option Channel) (id : ℕ) (cs : Channels) → IsQuiet cs (incoming_reset_from o id cs)
resets_from None id cs = resets_in_turn id cs
resets_from (Some c) id cs =
    either c.lifecycle.is_incoming_reset cs cs (settle reset_incoming c id cs) (same cs) (settles_from (Some c) reset_incoming id cs (λ x h. record { parts = refl; is_whole = refl }))

pub resets : (id : ℕ) (cs : Channels) → IsQuiet cs (on_incoming_reset id cs)
resets id cs = resets_from (channel_at id cs.entries) id cs

pub performs : (id : ℕ) (cs : Channels) → IsQuiet cs (on_reset_performed id cs)
performs id cs = settles_from (channel_at id cs.entries) (change_lifecycle life.finish) id cs (λ c h. keeps_parts (life.finish c.lifecycle) c h)

abbrev denied_from : Option Channel → ℕ → Channels → Channels
denied_from o id cs = where_there o (λ c. denied c id (change (change_lifecycle life.deny) id cs)) cs

denies_from : (o : Option Channel) (id : ℕ) (cs : Channels) → IsQuiet cs (denied_from o id cs)
denies_from None id cs = same cs
denies_from (Some c) id cs =
    let less = change (change_lifecycle life.deny) id cs in
    let quiet = changes (change_lifecycle life.deny) id cs (λ x h. keeps_parts (life.deny x.lifecycle) x h) in
    either (is_denied (life.deny c.lifecycle).outgoing) cs (tell_end c.lifecycle id less) less (and_then cs less (tell_end c.lifecycle id less) quiet (tells_end c.lifecycle id less)) quiet

pub denies : (id : ℕ) (cs : Channels) → IsQuiet cs (on_reset_denied id cs)
denies id cs = denies_from (channel_at id cs.entries) id cs

abbrev drain_from : Option Channel → (id buffered : ℕ) → Channels → Channels
drain_from o id buffered cs =
    where_there o (λ c. cond (life.asks_for_reset buffered c.lifecycle) (emit (reset id) (change (change_lifecycle (life.drain buffered)) id cs)) cs) cs

drains_from : (o : Option Channel) (id buffered : ℕ) (cs : Channels) → IsQuiet cs (drain_from o id buffered cs)
drains_from None id buffered cs = same cs
drains_from (Some c) id buffered cs =
    let less = change (change_lifecycle (life.drain buffered)) id cs in
    either (life.asks_for_reset buffered c.lifecycle) cs (emit (reset id) less) cs
    (and_then cs less (emit (reset id) less) (changes (change_lifecycle (life.drain buffered)) id cs (λ x h. keeps_parts (life.drain buffered x.lifecycle) x h)) (emits (reset id) less refl)) (same cs)

pub drains : (id buffered : ℕ) (cs : Channels) → IsQuiet cs (drain id buffered cs)
drains id buffered cs = drains_from (channel_at id cs.entries) id buffered cs

ends_from : (o : Option Channel) (id : ℕ) (cs : Channels) → IsQuiet cs (where_there o (λ c. tell_end c.lifecycle id (with_entries (forget id cs.entries) cs)) cs)
ends_from None id cs = same cs
ends_from (Some c) id cs =
    let gone = with_entries (forget id cs.entries) cs in
    and_then cs gone (tell_end c.lifecycle id gone) (forgets id cs) (tells_end c.lifecycle id gone)

pub ends_missing : (id : ℕ) (cs : Channels) → IsQuiet cs (end_missing id cs)
ends_missing id cs =
    either (has_stream id cs) cs cs (where_there (channel_at id cs.entries) (λ c. tell_end c.lifecycle id (with_entries (forget id cs.entries) cs)) cs) (same cs)
    (ends_from (channel_at id cs.entries) id cs)

silent : (ids : List ℕ) → flat_map message_in (map tell_closed ids) ≡ []
silent [] = refl
silent (id ∷ ids) = silent ids

pub all_end : (cs : Channels) → IsQuiet cs (end cs)
all_end cs = record {
  limit = refl;
  whole = λ w. All-nil HasNoParts;
  told = flat_map-append message_in cs.outputs (map tell_closed (shown_streams cs.entries))
      ∙ ap (λ (m : List Content). flat_map message_in cs.outputs ++ m) (silent (shown_streams cs.entries))
      ∙ append-nil (flat_map message_in cs.outputs);
}

pub each_row : (row : ℕ → Channels → Channels) → ((id : ℕ) (cs : Channels) → IsQuiet cs (row id cs)) → (ids : List ℕ) (cs : Channels) → IsQuiet cs (each row ids cs)
each_row row quiet [] cs = same cs
each_row row quiet (id ∷ ids) cs = and_then cs (row id cs) (each row ids (row id cs)) (quiet id cs) (each_row row quiet ids (row id cs))
