-- A line declares an object exactly where it is read as its declaration.
use Rattle.std.proofs.Common.{◌≡◌, ℕ, suc, ◌+◌, ◌*◌, ◌≤◌, true, not, List, [], ◌∷◌, length, Option, Some, None, Result, Ok, refl, sym, ap, subst, ◌∙◌, arith}
use Rattle.std.specs.Prelude.{is_some}
use Rattle.kc_cache.specs.declared.cache.Cache.{Cache}
use Rattle.kc_cells.specs.declared.accumulator.Accumulator.{Accumulator}
use Rattle.kc_cells.specs.declared.mvar.Mvar.{Mvar}
use Rattle.kc_cells.specs.declared.promise.Promise.{Promise}
use Rattle.kc_grow.specs.declared.grow.Grow.{Grow}
use Rattle.kc_hash.specs.declared.hash.Hash.{Hash}
use Rattle.kc_model.specs.declared.footprint.Loc.{Loc}
use Rattle.kc_queue.specs.declared.queue.Queue.{Queue}
use Rattle.kc_script_bundle.specs.declared.object.Object.{Object}
use Rattle.kc_script_lines.proofs.Faults.{counted_length}
use Rattle.kc_script_lines.proofs.Given.{given, bind_ok, wants_ok, ok_is}
use Rattle.kc_script_lines.specs.Tests.{◌>>=◌, wants, counted, word_at, number_to, positive_to}
use Rattle.kc_script_lines.specs.Words.{is_name}
use Rattle.kc_script_lines.specs.declared.fault.Why.{Why}
use Rattle.kc_script_lines.specs.declared.fault.Why.TheVariants.{BadName, RepeatedName}
use Rattle.kc_stack.specs.declared.stack.Stack.{Stack}
use Rattle.kc_script_bundle.specs.declared.object.Object.TheVariants as object
use Rattle.kc_script_bundle.specs.Script.{Names}
use Rattle.kc_script_verbs.specs.declared.word.Kind.{Kind}
use Rattle.kc_script_verbs.specs.declared.word.Kind.TheVariants as kind
use Rattle.kc_script_verbs.specs.declared.word.Word.{Word}
use Rattle.kc_script_verbs.specs.declared.word.Word.TheVariants as word
use Rattle.kc_script_verbs.proofs.Declared.{declared_placed}
use Rattle.kc_script_verbs.proofs.Placing.{few_is, few_made, stack_is, queue_is, mvar_is, promise_is, acc_is, hash_is, grow_is, cache_is}
use Rattle.kc_script_verbs.proofs.Rows.{At, at_respells, respells_at, number_is, number_back, positive_is, positive_back, counted_back}
use Rattle.kc_script_verbs.proofs.Texts.{kind_text, word_has, kind_read}
use Rattle.kc_script_verbs.specs.Canonical.{Part, declaring, IsNumeral, Respells, Declares}
use Rattle.kc_script_verbs.specs.Declaring.{fields, loc_at, stack_at, queue_at, table_at, grow_at, cache_at, mvar_at, promise_at, acc_at, object_at, next_location, declare, declared_by, declared, IsAt, IsPlaced}
use Rattle.kc_script_verbs.specs.Objects.{object_of, new_name}
use Rattle.kc_script_verbs.specs.Words.{word_of}

-- ---- what is read is declared

-- what stands in an object's row: the text of its kind, its name, and the numbers behind it, as many as are wanted
abbrev Row : Names → List (List ℕ) → List ℕ → Kind → List Part → Type 0
Row names args name k (Part.text t ∷ Part.text n ∷ rest) = (kind_text k ≡ t) × (n ≡ name) × At names args 1 rest × (suc (length rest) ≡ fields k)
Row names args name k _ = ⊥

module _ (names : Names) (at : ℕ) (args : List (List ℕ)) (name : List ℕ) (o : Object) where
  abbrev Is : Kind → Object → Type 0
  Is k x = Row names args name k (declaring name x)

  sized : {A P : Type 0} (most i : ℕ) (f : ℕ → Result A Why) (x : A) → most ≤ 4294967295 → (positive_to most (word_at args i) >>= f) ≡ Ok x → ((n : ℕ) → IsNumeral n (word_at args i) → f n ≡ Ok x → P) → P
  sized most i f x le e more =
      let a = bind_ok (positive_to most (word_at args i)) f x e in
      more a.0 (positive_is most (word_at args i) a.0 le a.1) a.2

  object_row : (k : Kind) → object_at at k args ≡ Ok o → Is k o
  unfolding object_at loc_at stack_at queue_at table_at grow_at cache_at mvar_at promise_at acc_at
  object_row kind.Loc e =
      let a = bind_ok (number_to 4294967295 (word_at args 1)) (loc_at at) o e in
      let f = few_made _ _ _ _ o a.2 in
      subst (Is kind.Loc) (ok_is _ _ f.1) (refl, refl, (number_is 4294967295 (word_at args 1) a.0 (omega arith) a.1, tt), refl)
  object_row kind.Stack e = sized 4096 1 (stack_at at) o (omega arith) e (λ n h f. let m = few_made _ _ _ _ o f in subst (Is kind.Stack) (ok_is _ _ m.1) (refl, refl, (h, tt), refl))
  object_row kind.Queue e = sized 4096 1 (queue_at at) o (omega arith) e (λ n h f. let g = few_made _ _ _ _ o f in let m = few_made _ _ _ _ o g.1 in subst (Is kind.Queue) (ok_is _ _ m.1) (refl, refl, (h, tt), refl))
  object_row kind.Table e = sized 1024 1 (λ b. positive_to 4096 (word_at args 2) >>= table_at at b) o (omega arith) e (λ b h f. sized 4096 2 (table_at at b) o (omega arith) f (λ n i g. let x = few_made _ _ _ _ o g in let y = few_made _ _ _ _ o x.1 in let m = few_made _ _ _ _ o y.1 in subst (Is kind.Table) (ok_is _ _ m.1) (refl, refl, (h, (i, tt)), refl)))
  object_row kind.Grow e = sized 4096 1 (grow_at at) o (omega arith) e (λ n h f. let g = few_made _ _ _ _ o f in let m = few_made _ _ _ _ o g.1 in subst (Is kind.Grow) (ok_is _ _ m.1) (refl, refl, (h, tt), refl))
  object_row kind.Cache e = sized 1024 1 (λ b. positive_to 4096 (word_at args 2) >>= cache_at at b) o (omega arith) e (λ b h f. sized 4096 2 (cache_at at b) o (omega arith) f (λ n i g. let x = few_made _ _ _ _ o g in let y = few_made _ _ _ _ o x.1 in let m = few_made _ _ _ _ o y.1 in subst (Is kind.Cache) (ok_is _ _ m.1) (refl, refl, (h, (i, tt)), refl)))
  object_row kind.Mvar e = let m = few_made _ _ _ _ o e in subst (Is kind.Mvar) (ok_is _ _ m.1) (refl, refl, tt, refl)
  object_row kind.Promise e = let m = few_made _ _ _ _ o e in subst (Is kind.Promise) (ok_is _ _ m.1) (refl, refl, tt, refl)
  object_row kind.Acc e = sized 32 1 (acc_at at) o (omega arith) e (λ n h f. let g = few_made _ _ _ _ o f in let m = few_made _ _ _ _ o g.1 in subst (Is kind.Acc) (ok_is _ _ m.1) (refl, refl, (h, tt), refl))

row_respells : (names : Names) (args : List (List ℕ)) (name : List ℕ) (k : Kind) (first : List ℕ) (parts : List Part) → Row names args name k parts → first ≡ kind_text k → name ≡ word_at args 0 → length args ≡ fields k → Respells names parts (first ∷ args)
row_respells names args name k first [] row e h count = absurd row
row_respells names args name k first (Part.object_name o ∷ parts) row e h count = absurd row
row_respells names args name k first (Part.place_name x ∷ parts) row e h count = absurd row
row_respells names args name k first (Part.numeral n ∷ parts) row e h count = absurd row
row_respells names args name k first (Part.text t ∷ []) row e h count = absurd row
row_respells names args name k first (Part.text t ∷ Part.object_name o ∷ parts) row e h count = absurd row
row_respells names args name k first (Part.text t ∷ Part.place_name x ∷ parts) row e h count = absurd row
row_respells names args name k first (Part.text t ∷ Part.numeral n ∷ parts) row e h count = absurd row
row_respells names args name k first (Part.text t ∷ Part.text n ∷ rest) row e h count =
    (e ∙ row.0, at_respells names (Part.text n ∷ rest) args (omega (arith, count, row.3)) (sym (row.1 ∙ h), row.2))

-- a name that is new
new_is : (names : Names) (word name : List ℕ) → new_name names word ≡ Ok name → (name ≡ word) × (is_name name ≡ true) × (object_of names name ≡ None)
unfolding new_name
new_is names word name e =
    let last = λ (x : Unit {0}). given word in
    let second = λ (x : Unit {0}). wants (not (is_some (object_of names word))) RepeatedName >>= last in
    let a = bind_ok (wants (is_name word) BadName) second name e in
    let b = bind_ok (wants (not (is_some (object_of names word))) RepeatedName) last name a.2 in
    subst (λ (n : List ℕ). (n ≡ word) × (is_name n ≡ true) × (object_of names n ≡ None)) (ok_is _ _ b.2) (refl, wants_ok (is_name word) BadName a.0 a.1, no_object (object_of names word) (wants_ok (not (is_some (object_of names word))) RepeatedName b.0 b.1)) where
      no_object : (o : Option Object) → not (is_some o) ≡ true → o ≡ None
      no_object None e = refl
      no_object (Some o) e = absurd cc

pub declared_declares : (names : Names) (line : List (List ℕ)) (entry : List ℕ × Object) → declared names line ≡ Ok entry → Declares names line entry
unfolding declare
declared_declares names [] entry e = absurd cc
declared_declares names (first ∷ args) entry e = by (word_of first) refl e where
  by : (w : Option Word) → word_of first ≡ w → declared_by names w args ≡ Ok entry → Declares names (first ∷ args) entry
  by None h f = absurd cc
  by (Some word.Thread) h f = absurd cc
  by (Some word.Atomic) h f = absurd cc
  by (Some word.Or) h f = absurd cc
  by (Some word.End) h f = absurd cc
  by (Some (word.Say v)) h f = absurd cc
  by (Some (word.Declare k)) h f =
      let last = λ (name : List ℕ) (o : Object). given (name, o) in
      let second = λ (name : List ℕ). object_at (next_location names) k args >>= last name in
      let a = bind_ok (counted (fields k) args) (λ all. new_name names (word_at args 0) >>= second) entry f in
      let b = bind_ok (new_name names (word_at args 0)) second entry a.2 in
      let d = bind_ok (object_at (next_location names) k args) (last b.0) entry b.2 in
      let new = new_is names (word_at args 0) b.0 b.1 in
      let row = object_row names (next_location names) args b.0 d.0 k d.1 in
      let line = row_respells names args b.0 k first (declaring b.0 d.0) row (word_has first (word.Declare k) h) new.0 (counted_length (fields k) args a.0 a.1) in
      subst (Declares names (first ∷ args)) (ok_is (b.0, d.0) entry d.2) (line, new.1, new.2, subst (λ (x : List ℕ × Object). IsPlaced names x.1) (sym (ok_is (b.0, d.0) entry d.2)) (declared_placed names (first ∷ args) entry e))

-- ---- what is declared is read

module _ (names : Names) (args : List (List ℕ)) (at : ℕ) where
  loc_back : (x : Loc) (opens : ℕ) → IsAt at (object.Loc x opens) → IsNumeral opens (word_at args 1) → object_at at kind.Loc args ≡ Ok (object.Loc x opens)
  unfolding object_at loc_at
  loc_back x opens p n = rw (number_back 4294967295 (word_at args 1) opens n.2 n) (few_is _ _ _ _ p.1 ∙ ap (λ (a : ℕ). given (object.Loc (record { 0 = a }) opens)) (sym p.0))

  stack_back : (s : Stack) → IsAt at (object.Stack s) → IsNumeral s.cap (word_at args 1) → object_at at kind.Stack args ≡ Ok (object.Stack s)
  unfolding object_at stack_at
  stack_back s p n =
      let room : at + 1 + s.cap ≤ 65536 = omega (arith, p.1) in
      rw (positive_back 4096 (word_at args 1) s.cap p.2.0 p.2.1 n) (few_is _ _ _ _ room ∙ ap (λ t. given (object.Stack t)) (stack_is s at s.cap room p.0 refl))

  queue_back : (q : Queue) → IsAt at (object.Queue q) → IsNumeral q.cap (word_at args 1) → object_at at kind.Queue args ≡ Ok (object.Queue q)
  unfolding object_at queue_at
  queue_back q p n =
      let room : at + 2 + q.cap ≤ 65536 = omega (arith, p.1) in
      rw (positive_back 4096 (word_at args 1) q.cap p.2.0 p.2.1 n) (few_is _ _ _ _ p.2.0 ∙ few_is _ _ _ _ room ∙ ap (λ t. given (object.Queue t)) (queue_is q at q.cap p.2.0 room p.0 refl))

  table_back : (h : Hash) → IsAt at (object.Hash h) → IsNumeral h.buckets (word_at args 1) → IsNumeral h.cap (word_at args 2) → object_at at kind.Table args ≡ Ok (object.Hash h)
  unfolding object_at table_at
  table_back h p b n =
      let room : at + 2 + h.buckets + 3 * h.cap ≤ 65536 = omega (arith, p.1) in
      rw (positive_back 1024 (word_at args 1) h.buckets p.2.0 p.2.1 b, positive_back 4096 (word_at args 2) h.cap p.2.2 p.2.3 n) (few_is _ _ _ _ p.2.0 ∙ few_is _ _ _ _ p.2.2 ∙ few_is _ _ _ _ room ∙ ap (λ t. given (object.Hash t)) (hash_is h at h.buckets h.cap p.2.0 p.2.2 room p.0 refl refl))

  grow_back : (g : Grow) → IsAt at (object.Grow g) → IsNumeral g.cap (word_at args 1) → object_at at kind.Grow args ≡ Ok (object.Grow g)
  unfolding object_at grow_at
  grow_back g p n =
      let room : at + 3 + g.cap + 3 * g.cap ≤ 65536 = omega (arith, p.1) in
      rw (positive_back 4096 (word_at args 1) g.cap p.2.0 p.2.1 n) (few_is _ _ _ _ p.2.0 ∙ few_is _ _ _ _ room ∙ ap (λ t. given (object.Grow t)) (grow_is g at g.cap p.2.0 room p.0 refl))

  cache_back : (c : Cache) → IsAt at (object.Cache c) → IsNumeral c.buckets (word_at args 1) → IsNumeral c.cap (word_at args 2) → object_at at kind.Cache args ≡ Ok (object.Cache c)
  unfolding object_at cache_at
  cache_back c p b n =
      let room : at + 6 + c.buckets + 7 * c.cap ≤ 65536 = omega (arith, p.1) in
      rw (positive_back 1024 (word_at args 1) c.buckets p.2.0 p.2.1 b, positive_back 4096 (word_at args 2) c.cap p.2.2 p.2.3 n) (few_is _ _ _ _ p.2.0 ∙ few_is _ _ _ _ p.2.2 ∙ few_is _ _ _ _ room ∙ ap (λ t. given (object.Cache t)) (cache_is c at c.buckets c.cap p.2.0 p.2.2 room p.0 refl refl))

  mvar_back : (x : Mvar) → IsAt at (object.Mvar x) → object_at at kind.Mvar args ≡ Ok (object.Mvar x)
  unfolding object_at mvar_at
  mvar_back x p = few_is _ _ _ _ p.1 ∙ ap (λ t. given (object.Mvar t)) (mvar_is x at p.1 p.0)

  promise_back : (x : Promise) → IsAt at (object.Promise x) → object_at at kind.Promise args ≡ Ok (object.Promise x)
  unfolding object_at promise_at
  promise_back x p = few_is _ _ _ _ p.1 ∙ ap (λ t. given (object.Promise t)) (promise_is x at p.1 p.0)

  acc_back : (a : Accumulator) → IsAt at (object.Acc a) → IsNumeral a.cells (word_at args 1) → object_at at kind.Acc args ≡ Ok (object.Acc a)
  unfolding object_at acc_at
  acc_back a p n = rw (positive_back 32 (word_at args 1) a.cells p.2.0 p.2.1 n) (few_is _ _ _ _ p.2.0 ∙ few_is _ _ _ _ p.1 ∙ ap (λ t. given (object.Acc t)) (acc_is a at a.cells p.2.0 p.1 p.0 refl))

module _ (names : Names) (line : List (List ℕ)) (name : List ℕ) (good : is_name name ≡ true) (new : object_of names name ≡ None) where
  back : (k : Kind) (rest : List Part) (o : Object) → Respells names (Part.text (kind_text k) ∷ Part.text name ∷ rest) line → suc (length rest) ≡ fields k → ((args : List (List ℕ)) → At names args 1 rest → object_at (next_location names) k args ≡ Ok o) → declared names line ≡ Ok (name, o)
  unfolding declare new_name
  back k rest o h count make = by line h where
    by : (line : List (List ℕ)) → Respells names (Part.text (kind_text k) ∷ Part.text name ∷ rest) line → declared names line ≡ Ok (name, o)
    by [] h = absurd h
    by (first ∷ args) h =
        let r = respells_at names (Part.text name ∷ rest) args h.1 in
        let word : word_of first ≡ Some (word.Declare k) = ap word_of h.0 ∙ kind_read k in
        rw (word, counted_back (fields k) args (r.0 ∙ count), r.1.0, good, new, make args r.1.1) refl

  object_declared : (o : Object) → Respells names (declaring name o) line → IsAt (next_location names) o → declared names line ≡ Ok (name, o)
  object_declared (object.Loc x opens) h p = back kind.Loc (Part.numeral opens ∷ []) _ h refl (λ args r. loc_back names args (next_location names) x opens p r.0)
  object_declared (object.Stack s) h p = back kind.Stack (Part.numeral s.cap ∷ []) _ h refl (λ args r. stack_back names args (next_location names) s p r.0)
  object_declared (object.Queue q) h p = back kind.Queue (Part.numeral q.cap ∷ []) _ h refl (λ args r. queue_back names args (next_location names) q p r.0)
  object_declared (object.Mvar x) h p = back kind.Mvar [] _ h refl (λ args r. mvar_back names args (next_location names) x p)
  object_declared (object.Promise x) h p = back kind.Promise [] _ h refl (λ args r. promise_back names args (next_location names) x p)
  object_declared (object.Acc a) h p = back kind.Acc (Part.numeral a.cells ∷ []) _ h refl (λ args r. acc_back names args (next_location names) a p r.0)
  object_declared (object.Hash x) h p = back kind.Table (Part.numeral x.buckets ∷ Part.numeral x.cap ∷ []) _ h refl (λ args r. table_back names args (next_location names) x p r.0 r.1.0)
  object_declared (object.Grow g) h p = back kind.Grow (Part.numeral g.cap ∷ []) _ h refl (λ args r. grow_back names args (next_location names) g p r.0)
  object_declared (object.Cache c) h p = back kind.Cache (Part.numeral c.buckets ∷ Part.numeral c.cap ∷ []) _ h refl (λ args r. cache_back names args (next_location names) c p r.0 r.1.0)

pub declares_declared : (names : Names) (line : List (List ℕ)) (entry : List ℕ × Object) → Declares names line entry → declared names line ≡ Ok entry
declares_declared names line entry d = object_declared names line entry.0 d.1 d.2 entry.1 d.0 d.3

-- a line declares at most one object
pub declares_one : (names : Names) (line : List (List ℕ)) (a b : List ℕ × Object) → Declares names line a → Declares names line b → a ≡ b
declares_one names line a b h k = ok_is _ _ (sym (declares_declared names line a h) ∙ declares_declared names line b k)
