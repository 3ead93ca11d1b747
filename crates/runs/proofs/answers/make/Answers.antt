-- `runs::answers::make` meets its contract, case by case.
use Rattle.runs.proofs.Calls.{call_made}
use Rattle.runs.proofs.answers.make.Goals as goal

pub returns-in-Offer : goal.returns-in-Offer
returns-in-Offer c = call_made c.in-Offer.is c.offer.ensures c.offered.ensures

pub returns-in-Best : goal.returns-in-Best
returns-in-Best c = call_made c.in-Best.is c.offer_best.ensures c.offered-in-Best.ensures

pub returns-in-Advance : goal.returns-in-Advance
returns-in-Advance c = call_made c.in-Advance.is c.advance_local.ensures c.advanced.ensures
