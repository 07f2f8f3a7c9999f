-- Operations on a cache write and reply small numbers.
use Rattle.std.proofs.Common.{ℕ, ◌+◌, ◌-◌, ◌==◌, Bool, true, false, Option, Some, None, arith}
use Rattle.kc_cache.specs.Meaning.{cache_add_program, cache_program, cache_counted, dropped_program, enter_program, freed_program, got_program, is_unit, listed_program, node_named, number_in, oldest_program, order_of, cache_placed_program, renew_program, replace_program, table_of, taken_program, value_program, valued_program, with_number, write_program}
use Rattle.kc_cache.specs.declared.cache.Cache.{Cache}
use Rattle.kc_cache.specs.declared.operation.CacheAct.{CacheAct}
use Rattle.kc_cache.specs.declared.operation.CacheAct.TheVariants as act
use Rattle.kc_dllist.proofs.DllistLaw.{node_within}
use Rattle.kc_dllist.specs.Meaning.{bring_program, dllist_program, lead_program, node_in, release_program, unlink_program}
use Rattle.kc_dllist.specs.declared.dllist.Dllist.{Dllist}
use Rattle.kc_dllist.specs.declared.operation.DllistAct.{DllistAct}
use Rattle.kc_dllist.specs.declared.operation.DllistAct.TheVariants as list
use Rattle.kc_hash.specs.Meaning.{hash_program}
use Rattle.kc_hash.specs.declared.operation.HashAct.TheVariants as table
use Rattle.kc_model.specs.declared.reply.Reply.{Reply}
use Rattle.kc_model.specs.declared.reply.Reply.TheVariants as reply
use Rattle.kc_script_small.proofs.Programs.{Behind, NumbersFit, OneSmall, StaysSmall, small_if, zero_small}
use Rattle.kc_script_small.proofs.Tables.{hash_small}
use Rattle.kc_script_small.specs.Small.{IsSmall}
use Rattle.kc_script_verbs.specs.Canonical.{cache_words}
use Rattle.kc_xt.specs.Program.{Program}

-- ---- a list

abbrev ActSmall : DllistAct → Type 0
ActSmall (list.PushFront v) = IsSmall v
ActSmall (list.Remove i) = IsSmall i
ActSmall (list.MoveFront i) = IsSmall i
ActSmall list.Last = Unit {0}

module _ (d : Dllist) where
  node_small : (n : ℕ) → IsSmall (node_in d n)
  node_small n = let le = node_within d n in let laid = d.laid in omega (arith, le, laid)

  unlink_small : (i : ℕ) (k : Unit {0} → Program) → StaysSmall (k tt) → StaysSmall (unlink_program d i k)
  unlink_small i k h = λ p f n g. (node_small n, (node_small p, h))

  lead_small : (i h : ℕ) (k : Unit {0} → Program) → IsSmall i → IsSmall h → StaysSmall (k tt) → StaysSmall (lead_program d i h k)
  lead_small i h k small also b = (zero_small, (also, (small, (small, b))))

  dllist_small : (a : DllistAct) (k : Reply → Program) → ActSmall a → Behind k → StaysSmall (dllist_program d a k)
  unfolding dllist_program
  dllist_small (list.PushFront v) k small b = λ f g. small_if (node_in d f == 0) _ _ (b reply.Full tt) (λ n i. (node_small n, λ h j. (small, lead_small (node_in d f) (node_in d h) (λ _. k (reply.Value (node_in d f))) (node_small f) (node_small h) (b (reply.Value (node_in d f)) (node_small f)))))
  dllist_small (list.Remove i) k small b = unlink_small i (λ _. release_program d i k) (λ f g. (node_small f, (small, λ v h. b (reply.Value v) h)))
  dllist_small (list.MoveFront i) k small b = λ f g. small_if (node_in d f == i) _ _ (b reply.Unit tt) (unlink_small i (λ _. bring_program d i k) (λ h j. lead_small i (node_in d h) (λ _. k reply.Unit) small (node_small h) (b reply.Unit tt)))
  dllist_small list.Last k small b = λ l g. small_if (node_in d l == 0) _ _ (b reply.Empty tt) (λ v h. b (reply.Value v) h)

-- ---- a cache

module _ (c : Cache) where
  named_small : (n : Option ℕ) → IsSmall (node_named c n)
  named_small None = zero_small
  named_small (Some n) = node_small (order_of c) n

  counted_small : (s : ℕ) → IsSmall (cache_counted c s)
  counted_small s = let laid = c.laid in omega (arith, laid)

  fewer_small : (s : ℕ) → IsSmall (cache_counted c s - 1)
  fewer_small s = let laid = c.laid in omega (arith, laid)

  more_small : (s : ℕ) → IsSmall (cache_counted c s + 1)
  more_small s = let laid = c.laid in omega (arith, laid)

  left_small : (s : ℕ) → IsSmall (c.cap - cache_counted c s)
  left_small s = let laid = c.laid in omega (arith, laid)

  on_number : (r : Reply) (none : Program) (f : ℕ → Program) → OneSmall r → StaysSmall none → ((i : ℕ) → IsSmall i → StaysSmall (f i)) → StaysSmall (with_number (number_in r) none f)
  on_number (reply.Value n) none f small h g = g n small
  on_number reply.Unit none f small h g = h
  on_number (reply.Bool t) none f small h g = h
  on_number reply.Empty none f small h g = h
  on_number reply.Full none f small h g = h
  on_number reply.Stranded none f small h g = h
  on_number reply.Cancelled none f small h g = h
  on_number (reply.Many items) none f small h g = h

  module _ (k : Reply → Program) (b : Behind k) where
    value_small : (i : ℕ) → StaysSmall (value_program c i k)
    value_small i = λ v small. b (reply.Value v) small

    write_small : (i v : ℕ) → IsSmall v → StaysSmall (write_program c i v k)
    write_small i v small = (small, b reply.Unit tt)

    got_small : (r : Reply) → StaysSmall (got_program c r k)
    got_small r = let i = node_named c (number_in r) in small_if (i == 0) _ _ (b reply.Empty tt) (dllist_small (order_of c) (list.MoveFront i) (λ _. value_program c i k) (named_small (number_in r)) (λ _ _. value_small i))

    renew_small : (i v : ℕ) → IsSmall i → IsSmall v → StaysSmall (renew_program c i v k)
    renew_small i v at small = small_if (i == 0) _ _ (b reply.Full tt) (dllist_small (order_of c) (list.MoveFront i) (λ _. write_program c i v k) at (λ _ _. write_small i v small))

    listed_small : (key v : ℕ) (r : Reply) → IsSmall key → IsSmall v → StaysSmall (listed_program c key v r k)
    listed_small key v r small also = let i = node_named c (number_in r) in small_if (i == 0) _ _ (b reply.Full tt) (hash_small (table_of c) (table.Put key i) (λ q. valued_program c i v q k) (small, (named_small (number_in r), tt)) (λ q _. small_if (is_unit q) _ _ (write_small i v also) (b reply.Full tt)))

    enter_small : (key v : ℕ) → IsSmall key → IsSmall v → StaysSmall (enter_program c key v k)
    enter_small key v small also = dllist_small (order_of c) (list.PushFront key) (λ r. listed_program c key v r k) small (λ r _. listed_small key v r small also)

    dropped_small : (key v : ℕ) (r : Reply) → IsSmall key → IsSmall v → StaysSmall (dropped_program c key v r k)
    dropped_small key v r small also = let i = node_named c (number_in r) in small_if (i == 0) _ _ (b reply.Full tt) (dllist_small (order_of c) (list.Remove i) (λ _. enter_program c key v k) (named_small (number_in r)) (λ _ _. enter_small key v small also))

    replace_small : (key v : ℕ) → IsSmall key → IsSmall v → StaysSmall (replace_program c key v k)
    replace_small key v small also = dllist_small (order_of c) list.Last (λ r. oldest_program c key v r k) tt (λ r one. on_number r (k reply.Full) (λ old. hash_program (table_of c) (table.Del old) (λ q. dropped_program c key v q k)) one (b reply.Full tt) (λ old third. hash_small (table_of c) (table.Del old) (λ q. dropped_program c key v q k) (third, tt) (λ q _. dropped_small key v q small also)))

    add_small : (waits : Bool) (key v : ℕ) → IsSmall key → IsSmall v → StaysSmall (cache_add_program c waits key v k)
    add_small waits key v small also = λ s _. small_if (cache_counted c s == 0) _ _ (small_if waits _ _ tt (replace_small key v small also)) (fewer_small s, enter_small key v small also)

    place_small : (waits : Bool) (key v : ℕ) (r : Reply) → OneSmall r → IsSmall key → IsSmall v → StaysSmall (cache_placed_program c waits key v r k)
    place_small waits key v r one small also = on_number r (cache_add_program c waits key v k) (λ n. renew_program c (node_in (order_of c) n) v k) one (add_small waits key v small also) (λ n _. renew_small (node_in (order_of c) n) v (node_small (order_of c) n) also)

    taken_small : (r : Reply) → StaysSmall (taken_program c r k)
    taken_small r = let i = node_named c (number_in r) in small_if (i == 0) _ _ (b reply.Empty tt) (dllist_small (order_of c) (list.Remove i) (λ _. freed_program c i k) (named_small (number_in r)) (λ _ _ s _. (more_small s, value_small i)))

    pub cache_small : (a : CacheAct) → NumbersFit (cache_words c a) → StaysSmall (cache_program c a k)
    cache_small (act.CPut key v) n = hash_small (table_of c) (table.Find key) (λ r. cache_placed_program c false key v r k) (n.0, tt) (λ r one. place_small false key v r one n.0 n.1.0)
    cache_small (act.CPutWait key v) n = hash_small (table_of c) (table.Find key) (λ r. cache_placed_program c true key v r k) (n.0, tt) (λ r one. place_small true key v r one n.0 n.1.0)
    cache_small (act.CGet key) n = hash_small (table_of c) (table.Find key) (λ r. got_program c r k) n (λ r _. got_small r)
    cache_small (act.CDel key) n = hash_small (table_of c) (table.Del key) (λ r. taken_program c r k) n (λ r _. taken_small r)
    cache_small act.Len n = λ s _. b (reply.Value (c.cap - cache_counted c s)) (left_small s)
