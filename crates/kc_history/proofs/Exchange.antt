-- A ready record can be brought to the front of a legal list.
use Rattle.std.proofs.Common.{◌≡◌, ◌≢◌, inl, inr, ℕ, ◌+◌, ◌≤◌, List, [], ◌∷◌, Some, sym, ap, ◌∙◌, subst, subst₂, arith}
use Rattle.std.proofs.Math.Path.{fun_ext}
use Rattle.kc_history.proofs.Choice.{some_is, one_next, none_ready}
use Rattle.kc_history.proofs.Ready.{versions, same_or, no_some, more_same, more_other, Skips, PutAt, skips_or, puts_there, after_skips, after_put, raised_versions, found, later, ends_what_stands, first_ready}
use Rattle.kc_history.specs.Moves.{PutsNothingOf, PlacesExchanged}
use Rattle.kc_history.specs.Moves.Exchanged.{here, there}
use Rattle.kc_history.specs.Moves.PlacesExchanged.{none, one}
use Rattle.kc_history.specs.Order.{Footprints, one_record_more, IsNext, NoneLeft, Legal, Ready, Chooses, NoneReady, IsCanonical}
use Rattle.kc_history.specs.declared.record.Place.{Place}
use Rattle.kc_model.specs.Footprint.{Reads, PutsWhatItReads, put_at}
use Rattle.kc_model.specs.Store.{Store, cell_after, after, Finds}
use Rattle.kc_model.specs.declared.footprint.Footprint.{Footprint}
use Rattle.kc_model.specs.declared.footprint.Seen.{Seen}
use Rattle.kc_model.specs.declared.plain_store.Cell.{Cell}

pub more_least : (t : ℕ) (n : ℕ → ℕ) (u : ℕ) → n u ≤ one_record_more t n u
more_least t n u = elim (same_or u t) [ inl e ↦ rw (more_same t n u e) (omega arith) | inr e ↦ rw (more_other t n u e) (omega arith) ]

more_swap : (t u : ℕ) (n : ℕ → ℕ) (w : ℕ) → t ≢ u → one_record_more t (one_record_more u n) w ≡ one_record_more u (one_record_more t n) w
more_swap t u n w d = elim (same_or w t) [
  | inl e ↦ let f : w ≢ u = (λ h. d (sym e ∙ h)) in
      more_same t (one_record_more u n) w e ∙ ap (λ k. k + 1) (more_other u n w f) ∙ sym (more_other u (one_record_more t n) w f ∙ more_same t n w e)
  | inr e ↦ more_other t (one_record_more u n) w e ∙ (elim (same_or w u) [
    | inl f ↦ more_same u n w f ∙ sym (more_same u (one_record_more t n) w f ∙ ap (λ k. k + 1) (more_other t n w e))
    | inr f ↦ more_other u n w f ∙ sym (more_other u (one_record_more t n) w f ∙ more_other t n w e)
  ])
]

-- both put nothing that the other reads: it's one which comes first
commute_at : (f g : Footprint) (s : Store) (l : ℕ) → (PutAt f l → PutAt g l → ⊥) → after g (after f s) l ≡ after f (after g s) l
commute_at f g s l both = elim (skips_or f l) [
  | inl h ↦ ap (cell_after (put_at g.puts.items l)) (after_skips f s l h) ∙ sym (after_skips f (after g s) l h)
  | inr h ↦ (elim (skips_or g l) [
    | inl i ↦ after_skips g (after f s) l i ∙ ap (cell_after (put_at f.puts.items l)) (sym (after_skips g s l i))
    | inr i ↦ absurd (both h i)
  ])
]

module _ (a : Footprints) (well : (u k : ℕ) (f : Footprint) → a u k ≡ Some f → PutsWhatItReads f) where
  -- another record that stands first puts nothing that the ready one reads
  quiet : (e : Store) (ps : List Place) (n : ℕ → ℕ) (s : Store) (p q : Place) (f g : Footprint) → Ready a n (versions s) p f → q.thread ≢ p.thread → Legal a (one_record_more q.thread n) (after g s) ps e → (r : Seen) → Reads f r → Skips g r.loc.0
  quiet e ps n s p q f g ready ne rest r d = elim (skips_or g r.loc.0) [
    | inl h ↦ h
    | inr h ↦
        let m : one_record_more q.thread n p.thread ≡ n p.thread = more_other q.thread n p.thread (λ i. ne (sym i)) in
        let i = ready.next.0 in
        let v = later a well e ps (one_record_more q.thread n) (after g s) rest p.thread p.index f ready.next.1 (omega arith) r d in
        let w = after_put g s r.loc.0 h in
        let x = ready.reads r d in
        absurd (omega arith)
  ]

  -- the ready one puts nothing that it reads
  free : (n : ℕ → ℕ) (s : Store) (p q : Place) (f g : Footprint) → Ready a n (versions s) p f → q.thread ≢ p.thread → IsNext a n q g → Finds g s → (r : Seen) → Reads g r → Skips f r.loc.0
  free n s p q f g ready ne next finds r d = elim (skips_or f r.loc.0) [
    | inl h ↦ h
    | inr h ↦
        let i = next.0 in
        let v = ends_what_stands a well f (versions s) (well p.thread p.index f ready.next.1) ready.reads h.first h.stands in
        let w = found g s r h.first.loc.0 finds d (sym h.there) in
        absurd (ready.alone q.thread q.index g next.1 (omega arith) (λ j. absurd (ne j)) h.first h.stands r d (sym h.there) (sym w ∙ v))
  ]

  still_ready : (n : ℕ → ℕ) (s : Store) (p q : Place) (f g : Footprint) → Ready a n (versions s) p f → q.thread ≢ p.thread → ((r : Seen) → Reads f r → Skips g r.loc.0) → Ready a (one_record_more q.thread n) (versions (after g s)) p f
  still_ready n s p q f g ready ne quiet = record {
    next = (ready.next.0 ∙ sym (more_other q.thread n p.thread (λ i. ne (sym i))), ready.next.1);
    reads = λ r d. ap (λ (c : Cell). c.version) (after_skips g s r.loc.0 (quiet r d)) ∙ ready.reads r d;
    alone = λ u k h at below. ready.alone u k h at (let i = more_least q.thread n u in omega arith);
  }

  finds_back : (s : Store) (f g : Footprint) → Finds f (after g s) → ((r : Seen) → Reads f r → Skips g r.loc.0) → Finds f s
  finds_back s f g finds quiet r d = sym (after_skips g s r.loc.0 (quiet r d)) ∙ finds r d

  finds_on : (s : Store) (f g : Footprint) → Finds g s → ((r : Seen) → Reads g r → Skips f r.loc.0) → Finds g (after f s)
  finds_on s f g finds free r d = after_skips f s r.loc.0 (free r d) ∙ finds r d

  no_both : (f g : Footprint) (q : Place) → a q.thread q.index ≡ Some g → ((r : Seen) → Reads g r → Skips f r.loc.0) → (l : ℕ) → PutAt f l → PutAt g l → ⊥
  no_both f g q at free l i j =
      let (r, d, e, v) = well q.thread q.index g at j.first j.stands in
      no_some i.first (sym (ap (put_at f.puts.items) (sym (e ∙ j.there)) ∙ free r d) ∙ i.is)

  -- a legal list that begins with the ready record
  abbrev Fronted : (ℕ → ℕ) → Store → Store → Place → List Place → Type 0
  Fronted n s e p ps = (qs : List Place) × Legal a n s (p ∷ qs) e × PlacesExchanged a ps (p ∷ qs)

  under : {p : Place} {ps qs : List Place} → PlacesExchanged a ps qs → PlacesExchanged a (p ∷ ps) (p ∷ qs)
  under none = none
  under (one h t) = one (there h) (under t)

  joined : {ps qs rs : List Place} → PlacesExchanged a ps qs → PlacesExchanged a qs rs → PlacesExchanged a ps rs
  joined none t = t
  joined (one h u) t = one h (joined u t)

  puts_nothing : (f g : Footprint) → ((r : Seen) → Reads g r → Skips f r.loc.0) → PutsNothingOf f g
  puts_nothing f g h q hq r hr e = let x = puts_there f q r.loc.0 hq (sym e) in no_some x.first (sym (h r hr) ∙ x.is)

  legal_along : (e : Store) (qs : List Place) (n m : ℕ → ℕ) (s t : Store) → n ≡ m → s ≡ t → Legal a n s qs e → Legal a m t qs e
  legal_along e qs n m s t i j h = subst₂ (λ n s. Legal a n s qs e) i j h

  behind : (e : Store) (n : ℕ → ℕ) (s : Store) (p q : Place) (f g : Footprint) → Ready a n (versions s) p f → q.thread ≢ p.thread → IsNext a n q g → Finds g s → ((r : Seen) → Reads f r → Skips g r.loc.0) → (ps : List Place) → Fronted (one_record_more q.thread n) (after g s) e p ps → Fronted n s e p (q ∷ ps)
  behind e n s p q f g ready ne next finds still ps (qs, (f', next', finds', rest), moves) =
      let same : f' ≡ f = some_is f' f (sym next'.1 ∙ ready.next.1) in
      let finds'' : Finds f (after g s) = (let P : Footprint → Type 0 = λ f. Finds f (after g s) in subst P same finds') in
      let open_ = free n s p q f g ready ne next finds in
      let rest'' : Legal a (one_record_more p.thread (one_record_more q.thread n)) (after f (after g s)) qs e = (let P : Footprint → Type 0 = λ f. Legal a (one_record_more p.thread (one_record_more q.thread n)) (after f (after g s)) qs e in subst P same rest) in (
        q ∷ qs,
        (
          f,
          ready.next,
          finds_back s f g finds'' still,
          (
            g,
            (next.0 ∙ sym (more_other p.thread n q.thread ne), next.1),
            finds_on s f g finds open_,
            legal_along e qs (one_record_more p.thread (one_record_more q.thread n)) (one_record_more q.thread (one_record_more p.thread n)) (after f (after g s)) (after g (after f s))
                (fun_ext (λ w. more_swap p.thread q.thread n w (λ i. ne (sym i))))
                (fun_ext (λ l. sym (commute_at f g s l (no_both f g q next.1 open_ l))))
                rest'',
          ),
        ),
        joined (under moves)
            (one (here (record {
              threads = λ e. ne (sym e);
              first = f;
              second = g;
              is_first = ready.next.1;
              is_second = next.1;
              free = puts_nothing f g open_;
              quiet = puts_nothing g f still;
            })) none),
      )

  pub front : (e : Store) (ps : List Place) (n : ℕ → ℕ) (s : Store) (p : Place) (f : Footprint) → Legal a n s ps e → Ready a n (versions s) p f → Fronted n s e p ps
  front e [] n s p f h ready = absurd (let i = h.0 p.thread p.index f ready.next.1 in let j = ready.next.0 in omega arith)
  front e (q ∷ ps) n s p f (g, next, finds, rest) ready = elim (same_or q.thread p.thread) [
    | inl i ↦ (let P : Place → Type 0 = λ q. Legal a n s (q ∷ ps) e in let Q : Place → Type 0 = λ r. PlacesExchanged a (q ∷ ps) (r ∷ ps) in let same = one_next a n p q f g ready.next next i in (ps, subst P same (g, next, finds, rest), subst Q same none))
    | inr ne ↦
        let still = quiet e ps n s p q f g ready ne rest in
        behind e n s p q f g ready ne next finds still ps (front e ps (one_record_more q.thread n) (after g s) p f rest (still_ready n s p q f g ready ne still))
  ]

  -- what the canonical choice makes of a legal list
  pub follows : (e : Store) (qs ps : List Place) (n : ℕ → ℕ) (s : Store) (m w : ℕ → ℕ) → Legal a n s ps e → Chooses a n (versions s) qs m w → NoneReady a m w → NoneLeft a m × Legal a n s qs e × PlacesExchanged a ps qs
  follows e [] [] n s m w h (i, j) ready = ((let P : (ℕ → ℕ) → Type 0 = λ n. NoneLeft a n in subst P (sym i) h.0), h, none)
  follows e [] (p ∷ ps) n s m w h (i, j) ready = absurd (ready p h.0 (subst₂ (λ n v. Ready a n v p h.0) (sym i) (sym j) (first_ready a well e p ps n s h)))
  follows e (q ∷ qs) ps n s m w h (f, chosen, on) ready =
      let (rs, (f', next', finds', rest), moves) = front e ps n s q f h chosen.ready in
      let same : f' ≡ f = some_is f' f (sym next'.1 ∙ chosen.ready.next.1) in
      let rest'' : Legal a (one_record_more q.thread n) (after f s) rs e = (let P : Footprint → Type 0 = λ f. Legal a (one_record_more q.thread n) (after f s) rs e in subst P same rest) in
      let on' : Chooses a (one_record_more q.thread n) (versions (after f s)) qs m w = (let P : (ℕ → ℕ) → Type 0 = λ v. Chooses a (one_record_more q.thread n) v qs m w in subst P (raised_versions f s) on) in
      let all = follows e qs rs (one_record_more q.thread n) (after f s) m w rest'' on' ready in
      (all.0, (f, chosen.ready.next, (let P : Footprint → Type 0 = λ f. Finds f s in subst P same finds'), all.1), joined moves (under all.2))

  -- the canonical choice from versions 0, so far as it comes, against a legal list
  pub choice_legal : (s e : Store) (ls ps : List Place) (n v : ℕ → ℕ) → ((l : ℕ) → (s l).version ≡ 0) → Legal a (λ _. 0) s ls e → Chooses a (λ _. 0) (λ _. 0) ps n v → NoneReady a n v → NoneLeft a n × Legal a (λ _. 0) s ps e × PlacesExchanged a ls ps
  choice_legal s e ls ps n v zeros h c stuck = follows e ps ls (λ _. 0) s n v h (let P : (ℕ → ℕ) → Type 0 = λ x. Chooses a (λ _. 0) x ps n v in subst P (fun_ext (λ l. sym (zeros l))) c) stuck

  -- the canonical order is legal where some list is
  pub canonical_legal : (s e : Store) (ls ps : List Place) → ((l : ℕ) → (s l).version ≡ 0) → Legal a (λ _. 0) s ls e → IsCanonical a ps → Legal a (λ _. 0) s ps e × PlacesExchanged a ls ps
  canonical_legal s e ls ps zeros h c = let x = choice_legal s e ls ps c.stand c.versions zeros h c.chooses (none_ready a c.stand c.versions c.all) in (x.1, x.2)
