use Rattle.proof_pair.proofs.AskedLemmas.{new_ends_asked, each_call, each_call_numbers, each_end}
use Rattle.proof_pair.proofs.each_end_can_be_handed_over.Goals as goal

pub returns-clause-anew : goal.returns-clause-anew
returns-clause-anew c = new_ends_asked

pub returns-clause-after : goal.returns-clause-after
returns-clause-after c = each_call c.a_handover_and_its_restore_give_the_end_back.ensures.numbers c.a_handover_and_its_restore_give_the_end_back.ensures.made

pub returns-clause-numbers : goal.returns-clause-numbers
returns-clause-numbers c = each_call_numbers c.a_handover_and_its_restore_give_the_end_back.ensures.numbers c.a_handover_and_its_restore_give_the_end_back.ensures.made

pub returns-clause-goes_on : goal.returns-clause-goes_on
returns-clause-goes_on c = each_end c.a_handover_and_its_restore_give_the_end_back.ensures.numbers c.a_handover_and_its_restore_give_the_end_back.ensures.made c.a_handover_and_its_restore_give_the_end_back.ensures.goes_on
