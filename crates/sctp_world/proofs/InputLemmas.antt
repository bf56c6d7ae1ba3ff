-- Turns, one after the other, up to the end of the input.
use Rattle.std.proofs.Common.{◌≡◌, ℕ, ◌+◌, ◌*◌, ◌≤◌, List, [], ◌∷◌, ◌++◌, length, Option, Some, None, refl, sym, ap, subst, ◌∙◌, append_assoc, arith}
use Rattle.std.specs.Prelude.{IfSome, ◌==◌}
use Rattle.std.specs.Io.KnownBytes.{Appends, Consumes, IsAtEnd}
use Rattle.std.proofs.KnownBytes.{Appends-nil, Appends-trans, Consumes-nil, Consumes-trans}
use Rattle.std.proofs.lemmas.List.{append-nil, length-append}
use Rattle.std.proofs.lemmas.List.Splits.{slice_split_none}
use Rattle.sctp_world.specs.Command.{lines_of, IsNoCommand}
use Rattle.sctp_world.specs.Script.{RunsLine, RunsLines, RunsFront, StopsAt, refusal_text}
use Rattle.sctp_world.specs.Lines.{IsOneLine, HasRun, HasRunSome, HasStopped}
use Rattle.spec_world.specs.World.{World}
use Rattle.sctp_world.proofs.TurnLemmas.{RunsLines_push}

-- how far the reader was read: `seen` came from it, `line` is left of that, and `turns` turns were made
pub record IsReadTo (reader_old reader : Option (List ℕ)) (line : List ℕ) (count turns : ℕ) (w v : World) (old new : Option (List ℕ)) : Type 0 where
  pub seen : List ℕ
  pub consumed : Consumes reader_old reader seen
  pub lines : List (List ℕ)
  pub number : count ≡ length lines
  pub ran : HasRun seen lines line w v old new
  pub plain : IsOneLine line
  pub few : count ≤ 4096 * turns

RunsLines_append : (xs ys : List (List ℕ)) (a b : List ℕ) (w v u : World) → RunsLines xs w v a → RunsLines ys v u b → RunsLines (xs ++ ys) w u (a ++ b)
RunsLines_append [] ys a b w v u none more =
    subst (λ (t : List ℕ). RunsLines ys w u (t ++ b)) (sym none.1) (subst (λ (x : World). RunsLines ys x u b) none.0 more)
RunsLines_append (x ∷ xs) ys a b w v u runs more =
    (runs.0, runs.1, runs.2 ++ b, runs.3, RunsLines_append xs ys runs.2 b runs.0 v u runs.4 more, ap (λ (t : List ℕ). t ++ b) runs.5 ∙ append_assoc runs.1 runs.2 b)

-- nothing was read
pub read_nothing : (reader old : Option (List ℕ)) (line : List ℕ) (w v : World) → line ≡ [] → v ≡ w → IsReadTo reader reader line 0 0 w v old old
read_nothing reader old line w v none same = rw (none, same) (record {
  seen = [];
  consumed = Consumes-nil reader;
  lines = [];
  number = refl;
  ran = record { text = []; front = λ more. refl; runs = (refl, refl); written = Appends-nil old };
  plain = λ k d lt. absurd (omega arith);
  few = omega arith;
})

-- ---- what the bytes that were read say of the whole input

front_text : (reader_old reader : Option (List ℕ)) (seen : List ℕ) (lines : List (List ℕ)) (rest : List ℕ) (w v : World) (old new : Option (List ℕ))
    → Consumes reader_old reader seen → HasRun seen lines rest w v old new
    → IfSome reader_old (λ input. (text : List ℕ) × RunsFront (lines_of input) w text × Appends old new text)
front_text None reader seen lines rest w v old new consumed run = tt
front_text (Some xs) None seen lines rest w v old new consumed run = absurd consumed
front_text (Some xs) (Some ys) seen lines rest w v old new consumed run = (
  run.text,
  record { before = lines; after = lines_of (rest ++ ys); left = v; split = ap lines_of consumed ∙ run.front ys; runs = run.runs },
  run.written,
)

stopped_text : (reader_old reader : Option (List ℕ)) (seen : List ℕ) (n : ℕ) (w : World) (old new : Option (List ℕ))
    → Consumes reader_old reader seen → HasStopped seen 0 n w old new
    → IfSome reader_old (λ input. (text : List ℕ) × StopsAt (lines_of input) n w text × Appends old new (text ++ refusal_text n))
stopped_text None reader seen n w old new consumed stop = tt
stopped_text (Some xs) None seen n w old new consumed stop = absurd consumed
stopped_text (Some xs) (Some ys) seen n w old new consumed stop = (
  stop.text,
  record {
    before = stop.lines;
    line = stop.line;
    after = lines_of (stop.rest ++ ys);
    left = stop.left;
    split = ap lines_of consumed ∙ stop.front ys;
    number = omega (arith, stop.number);
    no_command = stop.no_command;
    runs = stop.runs;
  },
  stop.written,
)

-- a reader at its end gave all that it had
all_read : (xs : List ℕ) (reader_old reader reader_new : Option (List ℕ)) (seen : List ℕ) → reader_old ≡ Some xs
    → Consumes reader_old reader seen → Consumes reader reader_new [] → IsAtEnd reader_new → xs ≡ seen
all_read xs None reader reader_new seen e consumed none done = cc
all_read xs (Some ys) None reader_new seen e consumed none done = absurd consumed
all_read xs (Some ys) (Some zs) None seen e consumed none done = absurd none
all_read xs (Some ys) (Some zs) (Some ws) seen e consumed none done =
    let same : xs ≡ ys = cc in
    same ∙ consumed ∙ ap (λ (t : List ℕ). seen ++ t) (none ∙ done) ∙ append-nil seen

module _ (reader_old reader : Option (List ℕ)) (line : List ℕ) (count turns : ℕ) (w v : World) (old mid : Option (List ℕ)) (read : IsReadTo reader_old reader line count turns w v old mid) where
  -- what was written so far
  pub silent_so_far : IfSome reader_old (λ input. (text : List ℕ) × RunsFront (lines_of input) w text × Appends old mid text)
  silent_so_far = front_text reader_old reader read.seen read.lines line w v old mid read.consumed read.ran

  -- a piece more, whatever follows
  more_front : (piece : List ℕ) (rest : List ℕ → List (List ℕ)) → ((more : List ℕ) → lines_of ((line ++ piece) ++ more) ≡ rest more)
      → (more : List ℕ) → lines_of ((read.seen ++ piece) ++ more) ≡ read.lines ++ rest more
  more_front piece rest begins more =
      ap lines_of (append_assoc read.seen piece more) ∙ read.ran.front (piece ++ more)
      ∙ ap (λ (x : List (List ℕ)). read.lines ++ x) (ap lines_of (sym (append_assoc line piece more)) ∙ begins more)

  HasRun_more : (piece : List ℕ) (lines : List (List ℕ)) (rest : List ℕ) (u : World) (new : Option (List ℕ)) → HasRun (line ++ piece) lines rest v u mid new
      → HasRun (read.seen ++ piece) (read.lines ++ lines) rest w u old new
  HasRun_more piece lines rest u new run = record {
    text = read.ran.text ++ run.text;
    front = λ more. more_front piece (λ (m : List ℕ). lines ++ lines_of (rest ++ m)) run.front more ∙ sym (append_assoc read.lines lines (lines_of (rest ++ more)));
    runs = RunsLines_append read.lines lines read.ran.text run.text w v u read.ran.runs run.runs;
    written = Appends-trans old mid new read.ran.text run.text read.ran.written run.written;
  }

  HasStopped_more : (piece : List ℕ) (n : ℕ) (new : Option (List ℕ)) → HasStopped (line ++ piece) count n v mid new → HasStopped (read.seen ++ piece) 0 n w old new
  HasStopped_more piece n new stop = record {
    lines = read.lines ++ stop.lines;
    line = stop.line;
    rest = stop.rest;
    left = stop.left;
    text = read.ran.text ++ stop.text;
    front = λ more. more_front piece (λ (m : List ℕ). stop.lines ++ (stop.line ∷ lines_of (stop.rest ++ m))) stop.front more
        ∙ sym (append_assoc read.lines stop.lines (stop.line ∷ lines_of (stop.rest ++ more)));
    number = omega (arith, stop.number, read.number, length-append read.lines stop.lines);
    no_command = stop.no_command;
    runs = RunsLines_append read.lines stop.lines read.ran.text stop.text w v stop.left read.ran.runs stop.runs;
    written = subst (λ (t : List ℕ). Appends old new t) (sym (append_assoc read.ran.text stop.text (refusal_text n)))
        (Appends-trans old mid new read.ran.text (stop.text ++ refusal_text n) read.ran.written stop.written);
  }

  -- a turn more
  pub read_more : (piece rest : List ℕ) (u : World) (reader_new new : Option (List ℕ)) (sum : ℕ) → Consumes reader reader_new piece → length piece ≤ 4096
      → (lines : List (List ℕ)) × (sum ≡ count + length lines) × HasRun (line ++ piece) lines rest v u mid new
      → IsOneLine rest → sum ≤ count + length piece
      → IsReadTo reader_old reader_new rest sum (turns + 1) w u old new
  read_more piece rest u reader_new new sum consumed short ran plain few = record {
    seen = read.seen ++ piece;
    consumed = Consumes-trans reader_old reader reader_new read.seen piece read.consumed consumed;
    lines = read.lines ++ ran.0;
    number = omega (arith, ran.1, read.number, length-append read.lines ran.0);
    ran = HasRun_more piece ran.0 rest u new ran.2;
    plain = plain;
    few = omega (arith, few, short, read.few);
  }

  -- a turn failed in silence
  pub silent_in_turn : (piece : List ℕ) (reader_new new : Option (List ℕ)) → Consumes reader reader_new piece → HasRunSome (line ++ piece) v mid new
      → IfSome reader_old (λ input. (text : List ℕ) × RunsFront (lines_of input) w text × Appends old new text)
  silent_in_turn piece reader_new new consumed some =
      front_text reader_old reader_new (read.seen ++ piece) (read.lines ++ some.lines) some.rest w some.left old new
      (Consumes-trans reader_old reader reader_new read.seen piece read.consumed consumed) (HasRun_more piece some.lines some.rest some.left new some.ran)

  -- a turn met a line that is no command
  pub stopped_in_turn : (piece : List ℕ) (reader_new new : Option (List ℕ)) (n : ℕ) → Consumes reader reader_new piece → HasStopped (line ++ piece) count n v mid new
      → IfSome reader_old (λ input. (text : List ℕ) × StopsAt (lines_of input) n w text × Appends old new (text ++ refusal_text n))
  stopped_in_turn piece reader_new new n consumed stop =
      stopped_text reader_old reader_new (read.seen ++ piece) n w old new
      (Consumes-trans reader_old reader reader_new read.seen piece read.consumed consumed) (HasStopped_more piece n new stop)

  -- ---- the last line, which the end of the input ends

  last_line : lines_of read.seen ≡ read.lines ++ line ∷ []
  last_line = ap lines_of (sym (append-nil read.seen)) ∙ read.ran.front []
      ∙ ap (λ (x : List (List ℕ)). read.lines ++ x) (ap lines_of (append-nil line) ∙ slice_split_none (λ b. b == 10) line read.plain)

  module _ (reader_new : Option (List ℕ)) (none : Consumes reader reader_new []) (done : IsAtEnd reader_new) where
    whole : (xs : List ℕ) → reader_old ≡ Some xs → lines_of xs ≡ read.lines ++ line ∷ []
    whole xs is = ap lines_of (all_read xs reader_old reader reader_new read.seen is read.consumed none done) ∙ last_line

    -- it was run
    ended_at : (u : World) (new source : Option (List ℕ)) → reader_old ≡ source → (text : List ℕ) × RunsLine line v u text × Appends mid new text
        → IfSome source (λ input. (left : World) × (text : List ℕ) × RunsLines (lines_of input) w left text × Appends old new text)
    ended_at u new None is printed = tt
    ended_at u new (Some xs) is printed = rw (whole xs is) (
      u,
      read.ran.text ++ printed.0,
      RunsLines_push read.lines line read.ran.text printed.0 w v u read.ran.runs printed.1,
      Appends-trans old mid new read.ran.text printed.0 read.ran.written printed.2,
    )

    pub ended : (u : World) (new : Option (List ℕ)) → (text : List ℕ) × RunsLine line v u text × Appends mid new text
        → IfSome reader_old (λ input. (left : World) × (text : List ℕ) × RunsLines (lines_of input) w left text × Appends old new text)
    ended u new printed = ended_at u new reader_old refl printed

    -- it is no command
    stopped_end_at : (new source : Option (List ℕ)) (n : ℕ) → reader_old ≡ source → n ≡ count + 1 → IsNoCommand line → Appends mid new (refusal_text (count + 1))
        → IfSome source (λ input. (text : List ℕ) × StopsAt (lines_of input) n w text × Appends old new (text ++ refusal_text n))
    stopped_end_at new None n is number none refused = tt
    stopped_end_at new (Some xs) n is number no_command refused = (
      read.ran.text,
      record {
        before = read.lines;
        line = line;
        after = [];
        left = v;
        split = whole xs is;
        number = omega (arith, number, read.number);
        no_command = no_command;
        runs = read.ran.runs;
      },
      Appends-trans old mid new read.ran.text (refusal_text n) read.ran.written (rw number refused),
    )

    pub stopped_at_end : (new : Option (List ℕ)) (n : ℕ) → n ≡ count + 1 → IsNoCommand line → Appends mid new (refusal_text (count + 1))
        → IfSome reader_old (λ input. (text : List ℕ) × StopsAt (lines_of input) n w text × Appends old new (text ++ refusal_text n))
    stopped_at_end new n number no_command refused = stopped_end_at new reader_old n refl number no_command refused

-- before the first line nothing ran
pub nothing_ran : (reader old : Option (List ℕ)) (w : World) → IfSome reader (λ input. (text : List ℕ) × RunsFront (lines_of input) w text × Appends old old text)
nothing_ran None old w = tt
nothing_ran (Some input) old w = ([], record { before = []; after = lines_of input; left = w; split = refl; runs = (refl, refl) }, Appends-nil old)
