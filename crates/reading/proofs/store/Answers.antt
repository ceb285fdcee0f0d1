-- `reading::store` meets its contract. Assumes nothing.
use Rattle.reading.proofs.store.Goals as goal

pub returns-clause-memory : goal.returns-clause-memory
returns-clause-memory c = c.fill.ensures
