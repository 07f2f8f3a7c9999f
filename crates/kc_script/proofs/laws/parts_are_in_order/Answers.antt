use Rattle.kc_script.proofs.Again.{canonical_spells}
use Rattle.kc_script.proofs.PartLines.{parts_whole, files_each}
use Rattle.kc_script.proofs.Spelled.{spelled_lies, spelled_sized, spelled_threads_few, spelled_threads}
use Rattle.kc_script.proofs.laws.parts_are_in_order.Goals as goal

pub returns-clause-lies : goal.returns-clause-lies
returns-clause-lies c = λ setup files s p. spelled_lies (parts_whole setup files s p).1

pub returns-clause-sized : goal.returns-clause-sized
returns-clause-sized c = λ setup files s p. spelled_sized (parts_whole setup files s p).1

pub returns-clause-few : goal.returns-clause-few
returns-clause-few c = λ setup files s p. spelled_threads_few (parts_whole setup files s p).1

pub returns-clause-each : goal.returns-clause-each
returns-clause-each c = λ setup files s p. files_each s.objects 0 files s.threads p.threads

pub returns-clause-threads : goal.returns-clause-threads
returns-clause-threads c = λ setup files s p. spelled_threads (parts_whole setup files s p).1

pub returns-clause-whole : goal.returns-clause-whole
returns-clause-whole c = λ setup files s p. let whole = parts_whole setup files s p in canonical_spells whole.0 s whole.1
