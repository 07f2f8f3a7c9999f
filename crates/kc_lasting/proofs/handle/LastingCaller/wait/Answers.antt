use Rattle.std.proofs.Common.{inl}
use Rattle.kc_store.proofs.Remembering.{learns_same}
use Rattle.kc_lasting.proofs.handle.LastingCaller.wait.Goals as goal

pub returns-else-self-era-clause-passes : goal.returns-else-self-era-clause-passes
returns-else-self-era-clause-passes g c = inl (learns_same c.args.self.now.client.caller)
