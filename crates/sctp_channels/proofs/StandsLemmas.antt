-- What stands where memory ran out between two steps.
use Rattle.std.proofs.Common.{◌≡◌, ℕ, cond, Bool, true, false, Option, None, Some, List, [], ◌∷◌, ◌++◌, map, refl, sym, ap, subst, ◌∙◌}
use Rattle.std.proofs.lemmas.List.{append-nil, append_assoc, map-append}
use Rattle.std.proofs.lemmas.Map.{keys-set_value}
use Rattle.std.proofs.lemmas.Map.Steps.{set_value_same}
use Rattle.std.specs.BTreeMap.{is_at}
use Rattle.std.specs.Map.{keys_of, set_value}
use Rattle.std.specs.Ordering.{nat_cmp}
use Rattle.sctp_channels.specs.Channel.{Channel, change_lifecycle}
use Rattle.sctp_channels.specs.Lifecycle.{confirm, is_connecting, may_send}
use Rattle.sctp_channels.specs.declared.lifecycle.Lifecycle.{Lifecycle}
use Rattle.sctp_channels.specs.Channels.{Channels, Emits, Output, Stands, change, emit, is_shown, on_ack, output_of, tell_begin, tell_closed, tell_end, tell_opened, where_there}
use Rattle.sctp_channels.specs.declared.output.Output as given
use Rattle.sctp_channels.specs.declared.output.Output.TheVariants as outputs
use Rattle.sctp_serial.specs.declared.api.StreamId.{StreamId}
use Rattle.sctp_channels.specs.Entries.{Entries, channel_at, changed, changed_from}

keys_changed_from : (o : Option Channel) (f : Channel → Channel) (id : ℕ) (es : Entries) → keys_of (changed_from o f id es) ≡ keys_of es
keys_changed_from None f id es = refl
keys_changed_from (Some c) f id es = keys-set_value (is_at (nat_cmp id)) es (f c)

keys_changed : (f : Channel → Channel) (id : ℕ) (es : Entries) → keys_of (changed f id es) ≡ keys_of es
keys_changed f id es = keys_changed_from (channel_at id es) f id es

same : (cs : Channels) → Stands cs cs
same cs = record { more = []; outputs = sym (append-nil cs.outputs); streams = refl }

told_if : (b : Bool) (id : ℕ) (old new : Channels) → new.outputs ≡ old.outputs → keys_of new.entries ≡ keys_of old.entries → Stands old (cond b (emit (tell_opened id) new) new)
told_if true id old new is keys = record { more = tell_opened id ∷ []; outputs = ap (λ (os : List Output). os ++ tell_opened id ∷ []) is; streams = keys }
told_if false id old new is keys = record { more = []; outputs = is ∙ sym (append-nil old.outputs); streams = keys }

opened_if : (b : Bool) (l : Lifecycle) (id : ℕ) (cs : Channels) → Stands cs (cond b (tell_begin l id (change (change_lifecycle confirm) id cs)) cs)
opened_if true l id cs = told_if (may_send l) id cs (change (change_lifecycle confirm) id cs) refl (keys_changed (change_lifecycle confirm) id cs.entries)
opened_if false l id cs = same cs

abbrev pub confirm_from : Option Channel → ℕ → Channels → Channels
confirm_from o id cs = where_there o (λ c. cond (is_connecting c.lifecycle) (tell_begin c.lifecycle id (change (change_lifecycle confirm) id cs)) cs) cs

confirmed_from : (o : Option Channel) (id : ℕ) (cs : Channels) → Stands cs (confirm_from o id cs)
confirmed_from None id cs = same cs
confirmed_from (Some c) id cs = opened_if (is_connecting c.lifecycle) c.lifecycle id cs

pub stands_then : (a b c : Channels) → Stands a b → Stands b c → Stands a c
stands_then a b c s t = record {
  more = s.more ++ t.more;
  outputs = t.outputs ∙ ap (λ (os : List Output). os ++ t.more) s.outputs ∙ append_assoc a.outputs s.more t.more;
  streams = t.streams ∙ s.streams;
}

pub stands_same : (old new : Channels) → new ≡ old → Stands old new
stands_same old new is = subst (Stands old) (sym is) (same old)

-- the answer was noted
pub stands_ack : (id : ℕ) (old new : Channels) → new ≡ on_ack id old → Stands old new
stands_ack id old new is = subst (Stands old) (sym is) (confirmed_from (channel_at id old.entries) id old)

pub stands_told : (o : Output) (old new : Channels) → new ≡ emit o old → Stands old new
stands_told o old new is = subst (Stands old) (sym is) (record { more = o ∷ []; outputs = refl; streams = refl })

pub stands_changed : (f : Channel → Channel) (id : ℕ) (old new : Channels) → new ≡ change f id old → Stands old new
stands_changed f id old new is = subst (Stands old) (sym is) (record { more = []; outputs = sym (append-nil old.outputs); streams = keys_changed f id old.entries })

-- a channel that is written back as it was
pub unchanged : (id : ℕ) (c d : Channel) (es fs : Entries) → fs ≡ set_value (is_at (nat_cmp id)) es d → Some c ≡ channel_at id es → d ≡ c → fs ≡ es
unchanged id c d es fs is found same = is ∙ ap (λ (it : Channel). set_value (is_at (nat_cmp id)) es it) same ∙ set_value_same (is_at (nat_cmp id)) es c (sym found)

abbrev pub made_of : Bool → (stream_count limit kept_limit : ℕ) → List Output → Entries → Channels
made_of is_client stream_count limit kept_limit outputs es =
    record { is_client = is_client; stream_count = stream_count; limit = limit; kept_limit = kept_limit; entries = es; outputs = outputs }

-- one that is told to be closed
pub told_closed : (os new : List given.Output) (id : StreamId) (told : List Output) → new ≡ os ++ outputs.Closed id ∷ [] → map output_of new ++ told ≡ map output_of os ++ tell_closed id.0 ∷ told
told_closed os new id told is =
    ap (λ (xs : List given.Output). map output_of xs ++ told) is
    ∙ ap (λ (xs : List Output). xs ++ told) (map-append output_of os (outputs.Closed id ∷ []))
    ∙ append_assoc (map output_of os) (tell_closed id.0 ∷ []) told

pub emits_none : (a b : Channels) → b ≡ a → Emits a b
emits_none a b same = ([], same ∙ ap (λ (os : List Output). record a { outputs = os }) (sym (append-nil a.outputs)))

-- one output, and what came behind it
pub emits_then : (o : Output) (a b c : Channels) → b ≡ emit o a → Emits b c → Emits a c
emits_then o a b c is more = (
  o ∷ more.0,
  more.1 ∙ ap (λ (cs : Channels). record cs { outputs = cs.outputs ++ more.0 }) is ∙ ap (λ (os : List Output). record a { outputs = os }) (append_assoc a.outputs (o ∷ []) more.0),
)

-- one output, where there is one, and what came behind it
emits_if : (is_told : Bool) (o : Output) (a b c : Channels) → b ≡ cond is_told (emit o a) a → Emits b c → Emits a c
emits_if true o a b c is more = emits_then o a b c is more
emits_if false o a b c is more = subst (λ (x : Channels). Emits x c) is more

-- the owner was told the end of a channel that it knows
pub ends_then : (l : Lifecycle) (id : ℕ) (a b c : Channels) → b ≡ tell_end l id a → Emits b c → Emits a c
ends_then l id a b c is more = emits_if (is_shown l) (tell_closed id) a b c is more
