-- Records that are applied one by one.
use Rattle.std.proofs.Common.{◌≡◌, ℕ, ◌+◌, ◌<◌, ◌≤◌, List, [], ◌∷◌, Option, Some, None, length, drop, get_or, refl, sym, subst}
use Rattle.std.specs.Prelude.{IsSome}
use Rattle.std.specs.Option.{option_map}
use Rattle.std.proofs.lemmas.List.{drop_more, drop_all}
use Rattle.kc_history.specs.Order.{Footprints, Legal, one_record_more}
use Rattle.kc_history.specs.Records.{record_at, footprint_at}
use Rattle.kc_history.specs.declared.record.Place.{Place}
use Rattle.kc_history.specs.declared.record.Record.{Record}
use Rattle.kc_model.specs.Store.{Store, Finds, after}
use Rattle.kc_model.specs.declared.footprint.Footprint.{Footprint}

-- where a footprint stands, a record does
pub some_record : (records : List (List Record)) (t k : ℕ) (f : Footprint) → footprint_at records t k ≡ Some f → IsSome (record_at records t k)
some_record records t k f e = by (record_at records t k) e
  where
    by : (o : Option Record) → option_map (λ (r : Record). r.footprint) o ≡ Some f → IsSome o
    by None e = absurd (cc)
    by (Some r) e = refl

-- The records before this index took the first store to the one now, and the rest is legal from it. What goes on legally is legal as a whole.
pub record Comes (a : Footprints) (order : List Place) (old now : Store) (i : ℕ) : Type 0 where
  pub stand : ℕ → ℕ
  pub last : Store
  pub left : Legal a stand now (drop i order) last
  pub whole : (e : Store) → Legal a stand now (drop i order) e → Legal a (λ _. 0) old order e

pub comes_first : (a : Footprints) (order : List Place) (old last : Store) → Legal a (λ _. 0) old order last → Comes a order old old 0
comes_first a order old last legal = record { stand = λ _. 0; last = last; left = legal; whole = λ e h. h }

-- what comes next, and what follows of its puts
pub record Next (a : Footprints) (order : List Place) (old now : Store) (i : ℕ) (p : Place) : Type 0 where
  pub print : Footprint
  pub at : a p.thread p.index ≡ Some print
  pub finds : Finds print now
  pub on : Comes a order old (after print now) (i + 1)

pub comes_next : (a : Footprints) (order : List Place) (old now : Store) (i : ℕ) (d : Place) → i < length order → Comes a order old now i → Next a order old now i (get_or order i d)
comes_next a order old now i d lt c =
    let p : Place = get_or order i d in
    let here : drop i order ≡ p ∷ drop (i + 1) order = drop_more order i d lt in
    let (f, next, finds, rest) : Legal a c.stand now (p ∷ drop (i + 1) order) c.last = subst (λ (ps : List Place). Legal a c.stand now ps c.last) here c.left in
    record {
      print = f;
      at = next.1;
      finds = finds;
      on = record {
        stand = one_record_more p.thread c.stand;
        last = c.last;
        left = rest;
        whole = λ e h. c.whole e (subst (λ (ps : List Place). Legal a c.stand now ps e) (sym here) (f, next, finds, h));
      };
    }

pub comes_last : (a : Footprints) (order : List Place) (old now : Store) (i : ℕ) → length order ≤ i → Comes a order old now i → Legal a (λ _. 0) old order now
comes_last a order old now i le c =
    let none : drop i order ≡ [] = drop_all i order le in
    let end : Legal a c.stand now [] c.last = subst (λ (ps : List Place). Legal a c.stand now ps c.last) none c.left in
    c.whole now (subst (λ (ps : List Place). Legal a c.stand now ps now) (sym none) (end.0, refl))
