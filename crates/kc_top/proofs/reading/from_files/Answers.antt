use Rattle.std.proofs.Common.{◌<◌, ◌-◌, ℕ, List, length, take, drop, map, inl, string_bytes, subst, sym, arith}
use Rattle.std.specs.Global.{Global, Vec}
use Rattle.std.proofs.lemmas.List.{length-map, length-drop, take_all}
use Rattle.kc_model.specs.Shelves.{all_items, Fetched}
use Rattle.kc_script.specs.Parts.{PartsRefused}
use Rattle.kc_script.specs.declared.parser.TheConstants.{MOST_BYTES}
use Rattle.kc_script.specs.declared.part_error.PartError.{PartError}
use Rattle.kc_top.proofs.Parts.{slice_on, as_many, parted, rest_within}
use Rattle.kc_top.proofs.reading.from_files.Goals as goal

pub parse_parts-requires-clause-files : goal.parse_parts-requires-clause-files
parse_parts-requires-clause-files g c = rw (slice_on c.deref-2.result.now 1, c.deref-2.ensures.value) (rest_within MOST_BYTES c.in-Ok.files.items c.in-Ok.ensures.whole.within)

pub parse_parts-requires-clause-few : goal.parse_parts-requires-clause-few
parse_parts-requires-clause-few g c =
    let many = as_many _ (map string_bytes c.args.names.now) c.in-Ok.files.items c.in-Ok.ensures.whole.has in
    let named = length-map c.args.names.now (string_bytes {Z = Global}) in
    let few = c.requires.few in
    rw (slice_on c.deref-2.result.now 1, c.deref-2.ensures.value) (omega (arith, length-drop 1 c.in-Ok.files.items, many, named, few))

pub returns-in-Ok-parse_parts-clause-spells : goal.returns-in-Ok-parse_parts-clause-spells
returns-in-Ok-parse_parts-clause-spells g c =
    let many = as_many _ (map string_bytes c.args.names.now) c.in-Ok.files.items c.in-Ok.ensures.whole.has in
    let named = length-map c.args.names.now (string_bytes {Z = Global}) in
    let least = c.requires.some in
    let some : 0 < length c.in-Ok.files.items = omega (arith, many, named, least) in
    let parts = parted c.in-Ok.files.items c.index.result.now c.deref.result.now c.deref-2.result.now some c.index.ensures c.deref.ensures.value c.deref-2.ensures.value in
    record {
      setup = c.deref.result.now;
      rest = map (λ (w : Vec ℕ). w.items) (take (length c.deref-2.result.now - 1) (drop 1 c.deref-2.result.now));
      all = subst (λ (files : List (List ℕ)). Fetched g.F.Shelf.files g.F.Shelf.faults g.F.Shelf.sure g.F.Shelf.fetch_gives MOST_BYTES c.args.shelf.now (map string_bytes c.args.names.now) files c.fetch_all.new.shelf) parts c.in-Ok.ensures.whole;
      spells = c.in-Ok-parse_parts.ensures.spells;
    }

pub returns-in-Err-Fault-clause-refuses : goal.returns-in-Err-Fault-clause-refuses
returns-in-Err-Fault-clause-refuses g c =
    let many = as_many _ (map string_bytes c.args.names.now) c.in-Ok.files.items c.in-Ok.ensures.whole.has in
    let named = length-map c.args.names.now (string_bytes {Z = Global}) in
    let least = c.requires.some in
    let some : 0 < length c.in-Ok.files.items = omega (arith, many, named, least) in
    let parts = parted c.in-Ok.files.items c.index.result.now c.deref.result.now c.deref-2.result.now some c.index.ensures c.deref.ensures.value c.deref-2.ensures.value in
    record {
      setup = c.deref.result.now;
      rest = map (λ (w : Vec ℕ). w.items) (take (length c.deref-2.result.now - 1) (drop 1 c.deref-2.result.now));
      all = subst (λ (files : List (List ℕ)). Fetched g.F.Shelf.files g.F.Shelf.faults g.F.Shelf.sure g.F.Shelf.fetch_gives MOST_BYTES c.args.shelf.now (map string_bytes c.args.names.now) files c.fetch_all.new.shelf) parts c.in-Ok.ensures.whole;
      refused = subst (λ (e : PartError). PartsRefused c.deref.result.now (map (λ (w : Vec ℕ). w.items) (take (length c.deref-2.result.now - 1) (drop 1 c.deref-2.result.now))) e) c.in-Err-Fault.field-0-is c.in-Err-Fault.ensures.refused;
    }

pub returns-clause-refuses : goal.returns-clause-refuses
returns-clause-refuses g c =
    let names = map string_bytes c.args.names.now in
    inl (record {
      count = length names;
      within = omega arith;
      files = all_items c.in-Ok.files.items;
      fetched = subst (λ (some : List (List ℕ)). Fetched g.F.Shelf.files g.F.Shelf.faults g.F.Shelf.sure g.F.Shelf.fetch_gives MOST_BYTES c.args.shelf.now some (all_items c.in-Ok.files.items) c.fetch_all.new.shelf) (sym (take_all (length names) names (omega arith))) c.in-Ok.ensures.whole;
    })
