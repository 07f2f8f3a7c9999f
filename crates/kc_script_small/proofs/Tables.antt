-- Operations on tables of both kinds write and reply small numbers.
use Rattle.std.proofs.Common.{ℕ, zero, suc, ◌+◌, ◌-◌, ◌≤◌, ◌==◌, Option, Some, None, arith}
use Rattle.kc_chain.proofs.Within.{link_within}
use Rattle.kc_chain.specs.Meaning.{chain_counted, del_program, find_program, found_program, head_cell, length_program, link_of, next_cell, nodes_program, placed_program, put_program, removed_program, walk_program}
use Rattle.kc_chain.specs.declared.acts.Placed.{Placed}
use Rattle.kc_chain.specs.declared.acts.Placed.TheVariants as placed
use Rattle.kc_chain.specs.declared.layout.Chains.{Chains}
use Rattle.kc_chain.specs.declared.walk.Place.{Place}
use Rattle.kc_grow.proofs.GrowLaw.{buckets_within}
use Rattle.kc_grow.specs.Meaning.{grown_bucket, buckets_of, grown_chains, grow_program, grown_program, moves, part_program, split_program, splits}
use Rattle.kc_grow.specs.declared.grow.Grow.{Grow}
use Rattle.kc_grow.specs.declared.operation.GrowAct.{GrowAct}
use Rattle.kc_grow.specs.declared.operation.GrowAct.TheVariants as grow
use Rattle.kc_grow.specs.declared.split.Parted.{Parted}
use Rattle.kc_hash.specs.Meaning.{bucket_of, chains_of, hash_program, reply_of}
use Rattle.kc_hash.specs.declared.hash.Hash.{Hash}
use Rattle.kc_hash.specs.declared.operation.HashAct.{HashAct}
use Rattle.kc_hash.specs.declared.operation.HashAct.TheVariants as table
use Rattle.kc_model.specs.declared.reply.Reply.{Reply}
use Rattle.kc_model.specs.declared.reply.Reply.TheVariants as reply
use Rattle.kc_script_bundle.specs.declared.object.Object.TheVariants as object
use Rattle.kc_script_small.proofs.Programs.{Behind, NumbersFit, StaysSmall, small_if, zero_small}
use Rattle.kc_script_small.specs.Small.{IsSmall}
use Rattle.kc_script_verbs.specs.Canonical.{hash_act, table_words}
use Rattle.kc_xt.specs.Program.{Program}

-- ---- chains

-- the node that a walk found
abbrev NodeSmall : Option Place → Type 0
NodeSmall None = Unit {0}
NodeSmall (Some p) = IsSmall p.node

module _ (h : Chains) (few : h.cap ≤ 65536) where
  link_small : (n : ℕ) → IsSmall (link_of h n)
  link_small n = let le = link_within h n in omega (arith, le, few)

  counted_small : (n : ℕ) → IsSmall (chain_counted h n)
  counted_small n = omega (arith, few)

  more_small : (n : ℕ) → IsSmall (chain_counted h n + 1)
  more_small n = omega (arith, few)

  fewer_small : (n : ℕ) → IsSmall (chain_counted h n - 1)
  fewer_small n = omega (arith, few)

  nodes_small : (key n from node : ℕ) (k : Option Place → Program) → IsSmall node → ((o : Option Place) → NodeSmall o → StaysSmall (k o)) → StaysSmall (nodes_program h key n from node k)
  unfolding nodes_program
  nodes_small key zero from node k small b = b None tt
  nodes_small key (suc n) from node k small b = small_if (node == 0) _ _ (b None tt) (λ x also. small_if (x == key) _ _ (b (Some (record { node = node; from = record { 0 = from } })) small) (λ next third. nodes_small key n (next_cell h node) (link_of h next) k (link_small next) b))

  walk_small : (key bucket : ℕ) (k : Option Place → Program) → ((o : Option Place) → NodeSmall o → StaysSmall (k o)) → StaysSmall (walk_program h key bucket k)
  walk_small key bucket k b = λ head small. nodes_small key h.cap (head_cell h bucket) (link_of h head) k (link_small head) b

  pub find_small : (key bucket : ℕ) (k : Reply → Program) → Behind k → StaysSmall (find_program h key bucket k)
  find_small key bucket k b = walk_small key bucket (found_program h k) by
    where
      by : (o : Option Place) → NodeSmall o → StaysSmall (found_program h k o)
      by None small = b reply.Empty tt
      by (Some p) small = λ v also. b (reply.Value v) also

  pub put_small : (key value bucket : ℕ) (k : Placed → Program) → IsSmall key → IsSmall value → ((p : Placed) → StaysSmall (k p)) → StaysSmall (put_program h key value bucket k)
  put_small key value bucket k small also b = walk_small key bucket (placed_program h key value bucket k) by
    where
      by : (o : Option Place) → NodeSmall o → StaysSmall (placed_program h key value bucket k o)
      by None node = λ free f. small_if (link_of h free == 0) _ _ (b placed.Full) (λ next g. (link_small next, (small, (also, λ head i. (link_small head, (link_small free, λ n j. (more_small n, b (placed.Added (chain_counted h n + 1)))))))))
      by (Some p) node = (also, b placed.Changed)

  pub del_small : (key bucket : ℕ) (k : Reply → Program) → Behind k → StaysSmall (del_program h key bucket k)
  del_small key bucket k b = walk_small key bucket (removed_program h k) by
    where
      by : (o : Option Place) → NodeSmall o → StaysSmall (removed_program h k o)
      by None node = b reply.Empty tt
      by (Some p) node = λ next f. (link_small next, λ free g. (link_small free, (node, λ n i. (fewer_small n, λ v j. b (reply.Value v) j))))

  pub length_small : (k : Reply → Program) → Behind k → StaysSmall (length_program h k)
  length_small k b = λ n small. b (reply.Value (chain_counted h n)) (counted_small n)

  -- ---- a chain in two

  part_small : (n left node kept moved : ℕ) (k : Parted → Program) → IsSmall node → IsSmall kept → IsSmall moved → ((p : Parted) → IsSmall p.kept → IsSmall p.moved → StaysSmall (k p)) → StaysSmall (part_program h n left node kept moved k)
  unfolding part_program
  part_small n zero node kept moved k at stays goes b = b (record { kept = kept; moved = moved }) stays goes
  part_small n (suc left) node kept moved k at stays goes b = small_if (node == 0) _ _ (b (record { kept = kept; moved = moved }) stays goes) (λ x f next g. small_if (moves n x) _ _
      (goes, part_small n left (link_of h next) kept node k (link_small next) stays at b)
      (stays, part_small n left (link_of h next) node moved k (link_small next) at goes b))

-- ---- a table

hash_few : (h : Hash) → h.cap ≤ 65536
hash_few h = let laid = h.laid in omega (arith, laid)

pub hash_small : (h : Hash) (a : HashAct) (k : Reply → Program) → NumbersFit (table_words (object.Hash h) a) → Behind k → StaysSmall (hash_program h a k)
hash_small h (table.Put key value) k n b = put_small (chains_of h) (hash_few h) key value (bucket_of h key) (λ p. k (reply_of p)) n.0 n.1.0 by
  where
    by : (p : Placed) → StaysSmall (k (reply_of p))
    by placed.Changed = b reply.Unit tt
    by placed.Full = b reply.Full tt
    by (placed.Added m) = b reply.Unit tt
hash_small h (table.Find key) k n b = find_small (chains_of h) (hash_few h) key (bucket_of h key) k b
hash_small h (table.Del key) k n b = del_small (chains_of h) (hash_few h) key (bucket_of h key) k b
hash_small h table.Len k n b = length_small (chains_of h) (hash_few h) k b

-- ---- a table that grows

grow_few : (g : Grow) → g.cap ≤ 65536
grow_few g = let laid = g.laid in omega (arith, laid)

split_small : (g : Grow) (n : ℕ) (k : Reply → Program) → n ≤ g.cap → Behind k → StaysSmall (split_program g n k)
split_small g n k le b =
    let few = grow_few g in
    (omega (arith, le, few), λ head small. part_small (grown_chains g n) few n g.cap (link_of (grown_chains g n) head) 0 0 _ (link_small (grown_chains g n) few head) zero_small zero_small (λ p kept moved. (kept, (moved, b reply.Unit tt))))

pub grow_small : (g : Grow) (a : GrowAct) (k : Reply → Program) → NumbersFit (table_words (object.Grow g) (hash_act a)) → Behind k → StaysSmall (grow_program g a k)
grow_small g (grow.Put key value) k h b = λ m small. put_small (grown_chains g (buckets_of g m)) (grow_few g) key value (grown_bucket (buckets_of g m) key) (grown_program g (buckets_of g m) k) h.0 h.1.0 (by (buckets_of g m) (buckets_within g m))
  where
    by : (n : ℕ) → n ≤ g.cap → (p : Placed) → StaysSmall (grown_program g n k p)
    by n le placed.Changed = b reply.Unit tt
    by n le placed.Full = b reply.Full tt
    by n le (placed.Added count) = small_if (splits g n count) _ _ (split_small g n k le b) (b reply.Unit tt)
grow_small g (grow.Find key) k h b = λ m small. find_small (grown_chains g (buckets_of g m)) (grow_few g) key (grown_bucket (buckets_of g m) key) k b
grow_small g (grow.Del key) k h b = λ m small. del_small (grown_chains g (buckets_of g m)) (grow_few g) key (grown_bucket (buckets_of g m) key) k b
grow_small g grow.Len k h b = length_small (grown_chains g 1) (grow_few g) k b
