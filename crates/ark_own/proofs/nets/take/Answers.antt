use Rattle.ark_own.proofs.nets.take.Goals as goal

pub returns-in-Rx-clause-acts : goal.returns-in-Rx-clause-acts
returns-in-Rx-clause-acts c = rw c.in-Rx.is c.take_received.ensures.acts

pub returns-in-Tx-clause-acts : goal.returns-in-Tx-clause-acts
returns-in-Tx-clause-acts c = rw c.in-Tx.is c.take_sent.ensures.acts
