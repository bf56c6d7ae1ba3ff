use Rattle.proof_delivery.proofs.AnswersLemmas.{response_settles, next_is_ask, last_is_ask, other_is_older}
use Rattle.proof_delivery.proofs.asks.requests_are_told_apart.Goals as goal

pub returns-clause-settles : goal.returns-clause-settles
returns-clause-settles c first answered done asks q r number result asking below few said = response_settles first answered done asks q r asking below few number result said

pub returns-clause-next : goal.returns-clause-next
returns-clause-next c first done asks r deferred at answering below order few there h = next_is_ask first done asks r deferred answering below order few at there h

pub returns-clause-last : goal.returns-clause-last
returns-clause-last c first done asks r deferred at answering below order few there h = last_is_ask first done asks r deferred answering below order few at there h

pub returns-clause-older : goal.returns-clause-older
returns-clause-older c first done asks r deferred at answering below order few there a b = other_is_older first done asks r deferred answering below order few at there a b
