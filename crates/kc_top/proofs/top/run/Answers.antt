use Rattle.std.proofs.Common.{map, string_bytes, refl}
use Rattle.kc_script_bundle.specs.Script.{script_of}
use Rattle.kc_top.proofs.Refusing.{read_own, read_runnable, read_starved, refused_ends}
use Rattle.kc_top.proofs.top.run.Goals as goal

pub returns-in-Err : goal.returns-in-Err
returns-in-Err g c = refused_ends g.S.Source.left g.S.Source.faults g.S.Source.read_gives g.F.Shelf.files g.F.Shelf.faults g.F.Shelf.sure g.F.Shelf.fetch_gives (map string_bytes c.args.words.now) _ _ _ _ g.K.Sink.written g.K.Sink.faults g.K.Sink.write_gives _ _ refl c.args.origin c.in-Err.status c.in-Err.ensures.refuses

pub perform-requires-clause-can : goal.perform-requires-clause-can
perform-requires-clause-can g c κs within = read_runnable g.S.Source.left g.S.Source.faults g.S.Source.read_gives g.F.Shelf.files g.F.Shelf.faults g.F.Shelf.sure g.F.Shelf.fetch_gives (map string_bytes c.args.words.now) _ _ _ _ c.args.origin (script_of c.in-Ok.bundle) c.in-Ok.ensures.reads

pub perform-requires-clause-own : goal.perform-requires-clause-own
perform-requires-clause-own g c κs within = read_own g.S.Source.left g.S.Source.faults g.S.Source.read_gives g.F.Shelf.files g.F.Shelf.faults g.F.Shelf.sure g.F.Shelf.fetch_gives (map string_bytes c.args.words.now) _ _ _ _ c.args.origin (script_of c.in-Ok.bundle) c.in-Ok.ensures.reads

pub returns : goal.returns
returns g c = record {
  refuses = read_starved g.S.Source.left g.S.Source.faults g.S.Source.read_gives g.F.Shelf.files g.F.Shelf.faults g.F.Shelf.sure g.F.Shelf.fetch_gives (map string_bytes c.args.words.now) _ _ _ _ c.args.origin (script_of c.in-Ok.bundle) c.in-Ok.ensures.reads;
  unwritten = c.in-Err-perform.ensures.untouched;
  nothing = refl;
}
