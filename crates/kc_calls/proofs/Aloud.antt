-- One operation alone: what it replies, where it was made and said nothing.
use Rattle.std.proofs.Common.{◌≡◌, ℕ, ◌||◌, Bool, true, false, cond, List, [], ◌∷◌, Some, None, refl, sym, ap, ◌∙◌, arith, eq-eqb}
use Rattle.std.specs.Prelude.{if◌then◌else◌}
use Rattle.std.proofs.lemmas.Bool.{cond-true}
use Rattle.kc_calls.specs.Alone.{first_value, has_one_location, reply_on}
use Rattle.kc_calls.specs.Silent.{silent, silenced}
use Rattle.kc_calls.specs.Told.{replies_told, told_item, places_from}
use Rattle.kc_calls.specs.declared.reply.KcasReply.{KcasReply}
use Rattle.kc_loc.proofs.LocLaw.{loc_stays}
use Rattle.kc_loc.proofs.Values.{loc_has_value}
use Rattle.kc_loc.specs.Kinds.{holds}
use Rattle.kc_loc.specs.Meaning.{loc_begin, loc_last, loc_meaning, loc_program, loc_value}
use Rattle.kc_loc.specs.declared.operation.LocOp.{LocOp}
use Rattle.kc_loc.specs.declared.operation.LocOp.TheVariants as loc
use Rattle.kc_model.specs.Footprint.{read_at}
use Rattle.kc_model.specs.Store.{Finds, Store}
use Rattle.kc_model.specs.declared.footprint.Footprint.{Footprint}
use Rattle.kc_model.specs.declared.footprint.Seen.{Seen}
use Rattle.kc_model.specs.declared.footprint.TheConstants.{MOST}
use Rattle.kc_model.specs.declared.reply.Answer.TheVariants as answer
use Rattle.kc_model.specs.declared.reply.Item.{Item}
use Rattle.kc_model.specs.declared.reply.Reply.{Reply}
use Rattle.kc_model.specs.declared.reply.Reply.TheVariants as reply
use Rattle.kc_xt.proofs.Stay.{stays_touches}
use Rattle.kc_xt.specs.Commit.{Answers, Waits, Wears, answer_of, run_on}
use Rattle.kc_xt.specs.Meaning.{Outcome, replied, retried, too_large, Touch, is_touched, limited, values}
use Rattle.kc_xt.specs.Program.{replies}

-- ---- the one reply

pub told_one : (xs : List Item) (x : Item) (y : KcasReply) → xs ≡ x ∷ [] → y ≡ told_item x → replies_told xs 1 ≡ y ∷ []
unfolding places_from
told_one xs x y e f = ap (λ zs. replies_told zs 1) e ∙ ap (λ z. z ∷ []) (sym f)

-- ---- how it ended

was_replied : (e : Outcome) (a : Reply) → silenced e ≡ replied a → (b : Reply) × (e ≡ replied b)
was_replied (replied b) a h = (b, refl)
was_replied retried a h = absurd cc
was_replied too_large a h = absurd cc

was_answered : (e : Outcome) (a : Reply) → answer_of (silenced e) ≡ Some (answer.Reply a) → (b : Reply) × (e ≡ replied b)
was_answered (replied b) a h = (b, refl)
was_answered retried a h = absurd cc
was_answered too_large a h = absurd cc

was_retried : (e : Outcome) → silenced e ≡ retried → e ≡ retried
was_retried (replied b) h = absurd cc
was_retried retried h = refl
was_retried too_large h = absurd cc

was_too_large : (e : Outcome) → answer_of (silenced e) ≡ Some answer.TooLarge → answer_of e ≡ Some answer.TooLarge
was_too_large (replied b) h = absurd cc
was_too_large retried h = absurd cc
was_too_large too_large h = refl

-- by the value of its location
replies_by : (o : LocOp) (v : ℕ → ℕ) (a : Reply) → (loc_value o v).outcome ≡ replied a → (loc_value o v).outcome ≡ replied (reply_on o (v (loc_last o)))
replies_by (loc.Get l) v a h = refl
replies_by (loc.Set l n) v a h = refl
replies_by (loc.Exchange l n) v a h = refl
replies_by (loc.Swap x y) v a h = refl
replies_by (loc.Cas l before after) v a h = refl
replies_by (loc.FetchAdd l n) v a h = refl
replies_by (loc.Incr l) v a h = refl
replies_by (loc.Decr l) v a h = refl
replies_by (loc.Update l f) v a h = refl
replies_by (loc.Modify l f) v a h = refl
replies_by (loc.Check l r n) v a h = by (holds r (v l.0) n) h
  where
    by : (t : Bool) → cond t (replied reply.Unit) retried ≡ replied a → cond t (replied reply.Unit) retried ≡ replied reply.Unit
    by true g = refl
    by false g = absurd cc

-- ---- what it read

-- where one location alone was touched, the first read is of it
first_of : (xs : List Seen) (s : Store) (l : ℕ) (t : ℕ → Bool) → ((k : ℕ) → read_at xs k ≡ (if t k then Some (record { loc = record { 0 = k }; version = (s k).version; value = (s k).value }) else None)) → t l ≡ true → ((k : ℕ) → t k ≡ true → k ≡ l) → first_value xs ≡ (s l).value
first_of [] s l t reads at only = absurd (let h : None ≡ Some _ = reads l ∙ ap (λ b. if b then Some (record { loc = record { 0 = l }; version = (s l).version; value = (s l).value }) else None) at in cc)
first_of (x ∷ xs) s l t reads at only = by (t x.loc.0) refl
  where
    here : Seen
    here = record { loc = record { 0 = x.loc.0 }; version = (s x.loc.0).version; value = (s x.loc.0).value }

    is : Some x ≡ (if t x.loc.0 then Some here else None)
    is = sym (cond-true _ _ _ (eq-eqb x.loc.0 x.loc.0 refl)) ∙ reads x.loc.0

    by : (b : Bool) → t x.loc.0 ≡ b → x.value ≡ (s l).value
    by true e = let h : Some x ≡ Some here = is ∙ ap (λ b. if b then Some here else None) e in let g : x ≡ here = cc in ap (λ (y : Seen). y.value) g ∙ ap (λ k. (s k).value) (only x.loc.0 e)
    by false e = absurd (let h : Some x ≡ None = is ∙ ap (λ b. if b then Some here else None) e in cc)

abbrev BeginsAt : List Touch → ℕ → Type 0
BeginsAt [] l = ⊥
BeginsAt (t ∷ ts) l = t.cell ≡ l

first_touched : (ts : List Touch) (l : ℕ) → BeginsAt ts l → is_touched ts l ≡ true
first_touched [] l h = absurd h
first_touched (t ∷ ts) l h = ap (λ b. b || is_touched ts l) (eq-eqb t.cell l h)

begins_at : (o : LocOp) → has_one_location o ≡ true → (s : Store) → BeginsAt (run_on (limited MOST (loc_meaning o)) s).touches (loc_last o)
unfolding loc_program
begins_at (loc.Get l) one s = refl
begins_at (loc.Set l v) one s = refl
begins_at (loc.Exchange l v) one s = refl
begins_at (loc.Swap a b) one s = absurd cc
begins_at (loc.Cas l before after) one s = refl
begins_at (loc.FetchAdd l n) one s = refl
begins_at (loc.Incr l) one s = refl
begins_at (loc.Decr l) one s = refl
begins_at (loc.Update l f) one s = refl
begins_at (loc.Modify l f) one s = refl
begins_at (loc.Check l r n) one s = refl

begins_there : (o : LocOp) → has_one_location o ≡ true → loc_begin o ≡ loc_last o
begins_there (loc.Get l) one = refl
begins_there (loc.Set l v) one = refl
begins_there (loc.Exchange l v) one = refl
begins_there (loc.Swap a b) one = absurd cc
begins_there (loc.Cas l before after) one = refl
begins_there (loc.FetchAdd l n) one = refl
begins_there (loc.Incr l) one = refl
begins_there (loc.Decr l) one = refl
begins_there (loc.Update l f) one = refl
begins_there (loc.Modify l f) one = refl
begins_there (loc.Check l r n) one = refl

-- ---- what is answered of the silent one is answered of it

module _ (o : LocOp) (one : has_one_location o ≡ true) (f : Footprint) where
  pub done_aloud : (a : Reply) → Answers (limited MOST (silent (loc_meaning o))) (answer.Reply a) f → Answers (limited MOST (loc_meaning o)) (answer.Reply (reply_on o (first_value f.reads.items))) f
  done_aloud a h = record { well_made = h.well_made; run = λ s finds. said s finds; makes = λ s finds. h.makes s finds }
    where
      only : (s : Store) (k : ℕ) → is_touched (run_on (limited MOST (loc_meaning o)) s).touches k ≡ true → k ≡ loc_last o
      only s k t = let w = stays_touches _ _ (loc_program o replies) (loc_stays o) MOST (values s) [] k t in omega (arith, w.0, w.1, begins_there o one)

      said : (s : Store) → Finds f s → answer_of (run_on (limited MOST (loc_meaning o)) s).outcome ≡ Some (answer.Reply (reply_on o (first_value f.reads.items)))
      said s finds =
          let b = was_answered (run_on (limited MOST (loc_meaning o)) s).outcome a (h.run s finds) in
          let is = loc_has_value o MOST (values s) [] (λ e. absurd (let g : replied b.0 ≡ too_large = sym b.1 ∙ e in cc)) in
          let by_value = is.0 ∙ replies_by o (values s) b.0 (sym is.0 ∙ b.1) in
          let first = first_of f.reads.items s (loc_last o) _ (h.makes s finds).reads (first_touched _ _ (begins_at o one s)) (only s) in
          ap answer_of (by_value ∙ ap (λ v. replied (reply_on o v)) (sym first))

  pub waits_aloud : Waits (limited MOST (silent (loc_meaning o))) f → Waits (limited MOST (loc_meaning o)) f
  waits_aloud h = record { well_made = h.well_made; run = λ s finds. (was_retried _ (h.run s finds).0, (h.run s finds).1); makes = λ s finds. h.makes s finds }

  pub too_large_aloud : Answers (limited MOST (silent (loc_meaning o))) answer.TooLarge f → Answers (limited MOST (loc_meaning o)) answer.TooLarge f
  too_large_aloud h = record { well_made = h.well_made; run = λ s finds. was_too_large _ (h.run s finds); makes = λ s finds. h.makes s finds }

  pub wears_aloud : (l : ℕ) → Wears (limited MOST (silent (loc_meaning o))) l f → Wears (limited MOST (loc_meaning o)) l f
  wears_aloud l h = record { well_made = h.well_made; run = λ s finds. (was_replied _ _ (h.run s finds).0.1, (h.run s finds).1); makes = λ s finds. h.makes s finds }
