-- The values with which a script opens are small.
use Rattle.std.proofs.Common.{◌≡◌, ℕ, zero, suc, ◌+◌, ◌-◌, ◌*◌, ◌/◌, ◌%◌, ◌≤◌, ◌==◌, Bool, true, false, cond, List, [], ◌∷◌, ◌++◌, length, arith}
use Rattle.std.proofs.lemmas.Bool.Decides.{nat_tests}
use Rattle.std.specs.List.{flat_map}
use Rattle.std.specs.Prelude.{nat_lt}
use Rattle.kc_cache.specs.Meaning.{cache_opening, order_of, table_of}
use Rattle.kc_cache.specs.declared.cache.Cache.{Cache}
use Rattle.kc_chain.specs.Content.{node_opening}
use Rattle.kc_dllist.proofs.DllistLaw.{node_within}
use Rattle.kc_dllist.specs.Meaning.{dllist_opening}
use Rattle.kc_dllist.specs.declared.dllist.Dllist.{Dllist}
use Rattle.kc_grow.specs.Content.{grow_opening}
use Rattle.kc_grow.specs.declared.grow.Grow.{Grow}
use Rattle.kc_hash.specs.Content.{hash_opening}
use Rattle.kc_hash.specs.declared.hash.Hash.{Hash}
use Rattle.kc_model.specs.Store.{opened, store_of}
use Rattle.kc_script.proofs.Spelled.{spelled_threads_few}
use Rattle.kc_script.specs.Spells.{Declare, Line, Spells}
use Rattle.kc_script.specs.declared.reader.Version.{Version}
use Rattle.kc_script_bundle.specs.Script.{Names, Script, cells}
use Rattle.kc_script_bundle.specs.State.{opening_cells, opening_value, opening_values, values_from}
use Rattle.kc_script_bundle.specs.declared.object.Object.{Object}
use Rattle.kc_script_bundle.specs.declared.object.Object.TheVariants as object
use Rattle.kc_script_runs.specs.Run.{opening_store}
use Rattle.kc_script_small.proofs.Meanings.{AllSmall, each_append}
use Rattle.kc_script_small.proofs.Operations.{numbers_fit}
use Rattle.kc_script_small.proofs.Programs.{NumbersFit, one_small, zero_small}
use Rattle.kc_script_small.specs.Small.{IsSmall}
use Rattle.kc_script_verbs.specs.Canonical.{declaring}
use Rattle.kc_term.specs.Fit.{Each}
use Rattle.kc_xt.specs.Meaning.{values}

-- ---- the cells of an object

if_small : (t : Bool) (a b : ℕ) → IsSmall a → IsSmall b → IsSmall (cond t a b)
if_small true a b h k = h
if_small false a b h k = k

node_small : (cap i : ℕ) → cap ≤ 65536 → IsSmall (node_opening cap i)
node_small cap i few = if_small (i % 3 == 2) _ _ (by (nat_lt (i / 3 + 1) cap) (λ e. grind (arith, nat_tests, e, few))) zero_small
  where
    by : (t : Bool) → (t ≡ true → IsSmall (i / 3 + 2)) → IsSmall (cond t (i / 3 + 2) 0)
    by true h = h (cc)
    by false h = zero_small

hash_small : (h : Hash) (i : ℕ) → IsSmall (hash_opening h i)
hash_small h i = let laid = h.laid in if_small (i == 1) _ _ one_small (if_small (nat_lt i (2 + h.buckets)) _ _ zero_small (node_small h.cap (i - (2 + h.buckets)) (omega (arith, laid))))

grow_small : (g : Grow) (i : ℕ) → IsSmall (grow_opening g i)
grow_small g i = let laid = g.laid in if_small (i == 1) _ _ one_small (if_small (i == 2) _ _ one_small (if_small (nat_lt i (3 + g.cap)) _ _ zero_small (node_small g.cap (i - (3 + g.cap)) (omega (arith, laid)))))

list_small : (d : Dllist) (i : ℕ) → IsSmall (dllist_opening d i)
list_small d i = let laid = d.laid in let le = node_within d (i / 3 + 1) in if_small (i % 3 == 2) _ _ (omega (arith, laid, le)) zero_small

cache_small : (c : Cache) (i : ℕ) → IsSmall (cache_opening c i)
cache_small c i =
    let laid = c.laid in
    if_small (i == 0) _ _ (omega (arith, laid)) (if_small (nat_lt i (3 + c.buckets + 3 * c.cap)) _ _ (hash_small (table_of c) (i - 1)) (if_small (nat_lt i (6 + c.buckets + 6 * c.cap)) _ _ (list_small (order_of c) (i - (3 + c.buckets + 3 * c.cap))) zero_small))

object_small : (name : List ℕ) (o : Object) → NumbersFit (declaring name o) → (i : ℕ) → IsSmall (opening_value o i)
object_small name (object.Loc at v) h i = h.0
object_small name (object.Stack s) h i = zero_small
object_small name (object.Queue q) h i = zero_small
object_small name (object.Mvar x) h i = zero_small
object_small name (object.Promise p) h i = zero_small
object_small name (object.Acc a) h i = zero_small
object_small name (object.Hash t) h i = hash_small t i
object_small name (object.Grow g) h i = grow_small g i
object_small name (object.Cache c) h i = cache_small c i

cells_small : (f : ℕ → ℕ) → AllSmall f → (i n : ℕ) → Each IsSmall (values_from f i n)
cells_small f h i zero = tt
cells_small f h i (suc n) = (h i, cells_small f h (i + 1) n)

-- ---- all cells

-- each object opens with small numbers
abbrev OpenSmall : List ℕ × Object → Type 0
OpenSmall entry = Each IsSmall (opening_cells entry.1)

declared_small : {version : Version} (names all : Names) (lines : List Line) → Declare version names lines all → Each OpenSmall names → Each OpenSmall all
declared_small names all lines Declare.none h = h
declared_small names all _ (Declare.one {lines = lines} line entry known e rest) h =
    let small : AllSmall (opening_value entry.1) = object_small entry.0 entry.1 (numbers_fit names (declaring entry.0 entry.1) line e.0) in
    declared_small (names ++ entry ∷ []) all lines rest (each_append OpenSmall names (entry ∷ []) h (cells_small (opening_value entry.1) small 0 (cells entry.1), tt))

all_cells : (names : Names) → Each OpenSmall names → Each IsSmall (flat_map (λ entry. opening_cells entry.1) names)
all_cells [] h = tt
all_cells (entry ∷ names) h = each_append IsSmall (opening_cells entry.1) (flat_map (λ entry. opening_cells entry.1) names) h.0 (all_cells names h.1)

store_small : (vs : List ℕ) → Each IsSmall vs → AllSmall (values (store_of (opened vs)))
store_small [] h l = zero_small
store_small (v ∷ vs) h zero = h.0
store_small (v ∷ vs) h (suc l) = store_small vs h.1 l

-- a script that bytes spell opens with small numbers
pub opens_small : {bytes : List ℕ} {s : Script} → Spells bytes s → AllSmall (values (opening_store s))
opens_small {bytes} {s} p =
    let few = spelled_threads_few p in
    store_small (opening_values s) (let n : IsSmall (length s.threads) = omega (arith, few) in n, all_cells s.objects (declared_small [] s.objects p.declaring p.declares tt))
