use Rattle.version_store.proofs.Keys.{key_read}
use Rattle.version_store.proofs.index.entry_at.Goals as goal

pub returns-clause-key : goal.returns-clause-key
returns-clause-key g c = key_read c.args.entries.now c.args.versions.now c.args.place c.index-entries-versions.result c.requires.index.within c.requires.within c.index-entries-versions.is
