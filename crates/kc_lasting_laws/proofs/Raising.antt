-- A legal list, with its versions raised.
use Rattle.std.proofs.Common.{◌≡◌, ◌==◌, ℕ, Bool, true, false, cond, List, [], ◌∷◌, ◌++◌, Option, None, Some, get_or, map, refl, ap, ◌∙◌, arith}
use Rattle.std.proofs.lemmas.List.Elements.{All-contains, All-head, All-map, All-tail, Contains-get_or}
use Rattle.std.specs.Option.{option_map}
use Rattle.std.specs.Prelude.{All}
use Rattle.kc_model.specs.Footprint.{IsBelow, Reads, put_at}
use Rattle.kc_model.specs.Legal.{IsLegal}
use Rattle.kc_model.specs.Store.{Finds, Store, after, cell_after}
use Rattle.kc_model.specs.declared.footprint.Entry.{Entry}
use Rattle.kc_model.specs.declared.footprint.Footprint.{Footprint}
use Rattle.kc_model.specs.declared.footprint.Put.{Put}
use Rattle.kc_model.specs.declared.footprint.Seen.{Seen}
use Rattle.kc_model.specs.declared.plain_store.Cell.{Cell}
use Rattle.kc_store.specs.kc_machine_traces.Histories.{made}
use Rattle.kc_lasting_laws.specs.Raised.{AgreesRaised, AllLieBelow, cell_raised, entry_raised, footprint_raised, put_raised, read_raised}

put_at_raised : (b : ℕ → ℕ) (ps : List Put) (l : ℕ) → put_at (map (put_raised b) ps) l ≡ option_map (put_raised b) (put_at ps l)
put_at_raised b [] l = refl
put_at_raised b (p ∷ ps) l = go (p.loc.0 == l) (put_at_raised b ps l)
  where
    go : (c : Bool) → put_at (map (put_raised b) ps) l ≡ option_map (put_raised b) (put_at ps l) → cond c (Some (put_raised b p)) (put_at (map (put_raised b) ps) l) ≡ option_map (put_raised b) (cond c (Some p) (put_at ps l))
    go true ih = refl
    go false ih = ih

cell_after_raised : (b : ℕ → ℕ) (l : ℕ) (o : Option Put) (c : Cell) → cell_after (option_map (put_raised b) o) (cell_raised (b l) c) ≡ cell_raised (b l) (cell_after o c)
cell_after_raised b l None c = refl
cell_after_raised b l (Some p) c = ap (λ (v : ℕ). record { version = v; value = p.after }) (omega arith)

after_raised : (n : ℕ) (b : ℕ → ℕ) (s t : Store) (f : Footprint) → AgreesRaised n b s t → AgreesRaised n b (after (footprint_raised b f) s) (after f t)
after_raised n b s t f agrees l lt =
    ap (λ (o : Option Put). cell_after o (s l)) (put_at_raised b f.puts.items l) ∙ ap (λ (c : Cell). cell_after (option_map (put_raised b) (put_at f.puts.items l)) c) (agrees l lt) ∙ cell_after_raised b l (put_at f.puts.items l) (t l)

pub finds_raised : (n : ℕ) (b : ℕ → ℕ) (s t : Store) (f : Footprint) → IsBelow n f → AgreesRaised n b s t → Finds f t → Finds (footprint_raised b f) s
finds_raised n b s t f below agrees finds r reads = All-contains P (map (read_raised b) f.reads.items) r (All-map P (read_raised b) f.reads.items each) reads
  where
    P : Seen → Type 0
    P r = s r.loc.0 ≡ record { version = r.version; value = r.value }

    one : (r : Seen) → Reads f r → P (read_raised b r)
    one r c = agrees r.loc.0 (below r c) ∙ ap (λ (x : Cell). cell_raised (b r.loc.0) x) (finds r c)

    each : All (λ r. P (read_raised b r)) f.reads.items
    each k d lt = one (get_or f.reads.items k d) (Contains-get_or f.reads.items k d lt)

-- ---- legal lists

pub legal_raised : (n : ℕ) (b : ℕ → ℕ) (s t e : Store) (es : List Entry) → IsLegal t es e → AllLieBelow n es → AgreesRaised n b s t → IsLegal s (map (entry_raised b) es) (made s (map (entry_raised b) es))
legal_raised n b s t e [] legal below agrees = refl
legal_raised n b s t e (x ∷ es) legal below agrees =
    (finds_raised n b s t x.footprint (All-head (λ (y : Entry). IsBelow n y.footprint) x es below) agrees legal.0, legal_raised n b (after (footprint_raised b x.footprint) s) (after x.footprint t) e es legal.1 (All-tail (λ (y : Entry). IsBelow n y.footprint) x es below) (after_raised n b s t x.footprint agrees))

pub agrees_raised : (n : ℕ) (b : ℕ → ℕ) (s t : Store) (es : List Entry) → AgreesRaised n b s t → AgreesRaised n b (made s (map (entry_raised b) es)) (made t es)
agrees_raised n b s t [] agrees = agrees
agrees_raised n b s t (x ∷ es) agrees = agrees_raised n b (after (footprint_raised b x.footprint) s) (after x.footprint t) es (after_raised n b s t x.footprint agrees)

pub legal_join : (s : Store) (a c : List Entry) → IsLegal s a (made s a) → IsLegal (made s a) c (made (made s a) c) → IsLegal s (a ++ c) (made s (a ++ c))
legal_join s [] c first rest = rest
legal_join s (x ∷ a) c first rest = (first.0, legal_join (after x.footprint s) a c first.1 rest)

pub made_join : (s : Store) (a c : List Entry) → made s (a ++ c) ≡ made (made s a) c
made_join s [] c = refl
made_join s (x ∷ a) c = made_join (after x.footprint s) a c
