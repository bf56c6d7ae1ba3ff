-- Lines that are run one after the other within the bytes of one turn.
use Rattle.std.proofs.Common.{◌≡◌, ℕ, ◌+◌, ◌≤◌, List, [], ◌∷◌, ◌++◌, length, Option, refl, sym, ap, subst, ◌∙◌, append_assoc, arith}
use Rattle.std.specs.Prelude.{◌==◌, false}
use Rattle.std.specs.Io.KnownBytes.{Appends}
use Rattle.std.proofs.KnownBytes.{Appends-nil, Appends-trans}
use Rattle.std.proofs.lemmas.List.{append-nil, length-append}
use Rattle.std.proofs.lemmas.List.Elements.{All-append}
use Rattle.std.proofs.lemmas.List.Splits.{slice_split_at}
use Rattle.sctp_world.specs.Command.{lines_of, IsNoCommand}
use Rattle.sctp_world.specs.Script.{RunsLine, RunsLines, refusal_text}
use Rattle.sctp_world.specs.Lines.{IsOneLine, HasRun, HasStopped}
use Rattle.spec_world.specs.World.{World}

-- where the run of a turn's bytes stands: `line` and `rest` are left of the bytes
pub record IsRunTo (bytes : List ℕ) (before count : ℕ) (line rest : List ℕ) (w v : World) (old new : Option (List ℕ)) (limit : ℕ) : Type 0 where
  pub lines : List (List ℕ)
  pub number : count ≡ before + length lines
  pub ran : HasRun bytes lines (line ++ rest) w v old new
  pub plain : IsOneLine line
  pub left : count + length rest ≤ limit

-- none of the bytes were run
pub begins_with_none : (bytes line rest : List ℕ) (before : ℕ) (w : World) (old : Option (List ℕ)) (limit : ℕ)
    → bytes ≡ line ++ rest → IsOneLine line → before + length rest ≤ limit → IsRunTo bytes before before line rest w w old old limit
begins_with_none bytes line rest before w old limit is plain fits = record {
  lines = [];
  number = omega arith;
  ran = record { text = []; front = λ more. ap (λ (b : List ℕ). lines_of (b ++ more)) is; runs = (refl, refl); written = Appends-nil old };
  plain = plain;
  left = fits;
}

-- one more line at the end of those that were run
pub RunsLines_push : (lines : List (List ℕ)) (line text more : List ℕ) (w v u : World) → RunsLines lines w v text → RunsLine line v u more → RunsLines (lines ++ line ∷ []) w u (text ++ more)
RunsLines_push [] line text more w v u none run =
    (u, more, [], subst (λ (x : World). RunsLine line x u more) none.0 run, (refl, refl), ap (λ (x : List ℕ). x ++ more) none.1 ∙ sym (append-nil more))
RunsLines_push (l ∷ lines) line text more w v u runs run =
    (runs.0, runs.1, runs.2 ++ more, runs.3, RunsLines_push lines line runs.2 more runs.0 v u runs.4 run, ap (λ (x : List ℕ). x ++ more) runs.5 ∙ append_assoc runs.1 runs.2 more)

-- the bytes of a line are read in two pieces, and a newline ends it
lines_of_cut : (line end after more : List ℕ) → IsOneLine line → IsOneLine end
    → lines_of ((line ++ (end ++ (10 ∷ after))) ++ more) ≡ (line ++ end) ∷ lines_of (after ++ more)
lines_of_cut line end after more plain first =
    ap lines_of (append_assoc line (end ++ (10 ∷ after)) more ∙ ap (λ (x : List ℕ). line ++ x) (append_assoc end (10 ∷ after) more) ∙ sym (append_assoc line end (10 ∷ (after ++ more))))
    ∙ slice_split_at (λ b. b == 10) (line ++ end) 10 (after ++ more) (All-append (λ b. (b == 10) ≡ false) line end plain first) refl

module _ (bytes : List ℕ) (before count : ℕ) (line rest : List ℕ) (w v : World) (old mid : Option (List ℕ)) (limit : ℕ) (run : IsRunTo bytes before count line rest w v old mid limit)
    (end after : List ℕ) (cut : rest ≡ end ++ (10 ∷ after)) (first : IsOneLine end) where
  -- the next line of the bytes
  next_line : (more : List ℕ) → lines_of (bytes ++ more) ≡ run.lines ++ ((line ++ end) ∷ lines_of (after ++ more))
  next_line more =
      run.ran.front more
      ∙ ap (λ (x : List (List ℕ)). run.lines ++ x) (ap (λ (r : List ℕ). lines_of ((line ++ r) ++ more)) cut ∙ lines_of_cut line end after more run.plain first)

  -- the line was run
  pub one_more_line : (new : Option (List ℕ)) (taken next : List ℕ) (u : World) → taken ≡ line ++ end → next ≡ []
      → (text : List ℕ) × RunsLine taken v u text × Appends mid new text
      → IsRunTo bytes before (count + 1) next after w u old new limit
  one_more_line new taken next u is_line is_empty printed = rw is_empty (record {
    lines = run.lines ++ taken ∷ [];
    number = omega (arith, run.number, length-append run.lines (taken ∷ []));
    ran = record {
      text = run.ran.text ++ printed.0;
      front = λ more. next_line more ∙ ap (λ (l : List ℕ). run.lines ++ (l ∷ lines_of (after ++ more))) (sym is_line) ∙ sym (append_assoc run.lines (taken ∷ []) (lines_of (after ++ more)));
      runs = RunsLines_push run.lines taken run.ran.text printed.0 w v u run.ran.runs printed.1;
      written = Appends-trans old mid new run.ran.text printed.0 run.ran.written printed.2;
    };
    plain = λ k d lt. absurd (omega arith);
    left = omega (arith, run.left, ap length cut, length-append end (10 ∷ after));
  })

  -- the line is no command
  pub stopped_at : (new : Option (List ℕ)) (taken : List ℕ) (n : ℕ) → taken ≡ line ++ end → n ≡ count + 1
      → IsNoCommand taken → Appends mid new (refusal_text (count + 1))
      → HasStopped bytes before n w old new
  stopped_at new taken n is_line number none refused = record {
    lines = run.lines;
    line = taken;
    rest = after;
    left = v;
    text = run.ran.text;
    front = λ more. next_line more ∙ ap (λ (l : List ℕ). run.lines ++ (l ∷ lines_of (after ++ more))) (sym is_line);
    number = omega (arith, number, run.number);
    no_command = none;
    runs = run.ran.runs;
    written = Appends-trans old mid new run.ran.text (refusal_text n) run.ran.written (rw number refused);
  }
