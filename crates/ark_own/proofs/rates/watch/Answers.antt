use Rattle.ark_own.proofs.rates.watch.Goals as goal

pub returns-in-Rx-clause-acts : goal.returns-in-Rx-clause-acts
returns-in-Rx-clause-acts c = rw c.in-Rx.is c.watch_net.ensures.acts

pub returns-in-Tx-clause-acts : goal.returns-in-Tx-clause-acts
returns-in-Tx-clause-acts c = rw c.in-Tx.is c.watch_net-in-Tx.ensures.acts

pub returns-in-Io-clause-acts : goal.returns-in-Io-clause-acts
returns-in-Io-clause-acts c = rw c.in-Io.is c.watch_card.ensures.acts
