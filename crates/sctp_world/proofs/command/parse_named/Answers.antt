use Rattle.std.proofs.Common.{refl, map}
use Rattle.sctp_world.proofs.WordLemmas.{no_command}
use Rattle.sctp_world.proofs.command.parse_named.Goals as goal

pub returns-else-is_word-11-clause-none : goal.returns-else-is_word-11-clause-none
returns-else-is_word-11-clause-none c =
    no_command _ (map (λ word. word.now) c.args.rest.now) c.args.name.now refl
    (c.if-is_word.ensures.no refl) (c.if-is_word-2.ensures.no refl) (c.if-is_word-3.ensures.no refl) (c.if-is_word-4.ensures.no refl)
    (c.if-is_word-5.ensures.no refl) (c.if-is_word-6.ensures.no refl) (c.if-is_word-7.ensures.no refl) (c.if-is_word-8.ensures.no refl)
    (c.if-is_word-9.ensures.no refl) (c.if-is_word-10.ensures.no refl) (c.if-is_word-11.ensures.no refl)
