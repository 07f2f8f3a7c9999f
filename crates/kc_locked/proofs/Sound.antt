-- What a commit keeps of the value under the lock.
use Rattle.std.proofs.Common.{◌≡◌, ℕ, zero, suc, ◌+◌, ◌≤◌, List, [], ◌∷◌, ◌++◌, length, Some, None, Option, refl, sym, ap, subst, ◌∙◌, arith, length-append}
use Rattle.std.proofs.Math.Path.{fun_ext}
use Rattle.std.proofs.lemmas.List.{ext_get_or}
use Rattle.kc_locked.specs.Held.{HeldView, held_view, IsSound}
use Rattle.kc_locked.specs.declared.held.TheConstants.{MOST_COMMITS}
use Rattle.kc_model.proofs.Stores.{opened_length}
use Rattle.kc_model.specs.Footprint.{put_at}
use Rattle.kc_model.specs.Legal.{IsLegal}
use Rattle.kc_model.specs.Store.{Store, store_of, opened, zero_cell, Finds, after, cell_after}
use Rattle.kc_model.specs.declared.footprint.Entry.{Entry}
use Rattle.kc_model.specs.declared.footprint.Footprint.{Footprint}
use Rattle.kc_model.specs.declared.footprint.Put.{Put}
use Rattle.kc_model.specs.declared.plain_store.Cell.{Cell}
use Rattle.kc_model.specs.declared.reply.Answer.{Answer}
use Rattle.kc_xt.specs.Commit.{Answers, Wears, run_on, answer_of}
use Rattle.kc_xt.specs.Meaning.{Meaning, retried}

-- one entry more
legal_more : (s mid e : Store) (es : List Entry) (x : Entry) → IsLegal s es mid → Finds x.footprint mid → e ≡ after x.footprint mid → IsLegal s (es ++ x ∷ []) e
legal_more s mid e [] x here finds end = subst (λ (t : Store). Finds x.footprint t × (e ≡ after x.footprint t)) here (finds, end)
legal_more s mid e (y ∷ es) x h finds end = (h.0, legal_more (after y.footprint s) mid e es x h.1 finds end)

pub sound_more : (h : HeldView) (x : Entry) (cells : List Cell) (spare : ℕ) → IsSound h → Finds x.footprint (store_of h.cells) → store_of cells ≡ after x.footprint (store_of h.cells) → length cells ≡ length h.cells → spare + 1 ≡ h.spare → IsSound (held_view h.opening (h.history ++ x ∷ []) cells spare)
sound_more h x cells spare sound finds end size less = record {
  legal = legal_more _ _ _ h.history x sound.legal finds end;
  size = size ∙ sound.size;
  most = (let m = sound.most in let l = length-append h.history (x ∷ []) in omega arith);
}

pub sound_first : (values : List ℕ) (spare : ℕ) → spare ≤ MOST_COMMITS → IsSound (held_view values [] (opened values) spare)
sound_first values spare le = record { legal = refl; size = opened_length values; most = omega arith }

-- ---- no location wears out

abbrev VersionsTo : ℕ → Store → Type 0
VersionsTo n s = (l : ℕ) → (s l).version ≤ n

opened_versions : (values : List ℕ) → VersionsTo 0 (store_of (opened values))
opened_versions [] l = omega arith
opened_versions (v ∷ values) zero = omega arith
opened_versions (v ∷ values) (suc l) = opened_versions values l

version_after : (p : Option Put) (c : Cell) (n : ℕ) → c.version ≤ n → (cell_after p c).version ≤ n + 1
version_after None c n le = omega arith
version_after (Some p) c n le = omega arith

versions_after : (n : ℕ) (s e : Store) (es : List Entry) → VersionsTo n s → IsLegal s es e → VersionsTo (n + length es) e
versions_after n s e [] to end = rw end (λ l. let t = to l in omega arith)
versions_after n s e (x ∷ es) to h = λ l.
    let v = versions_after (n + 1) (after x.footprint s) e es (λ k. version_after (put_at x.footprint.puts.items k) (s k) n (to k)) h.1 l in omega arith

pub not_worn : (h : HeldView) (m : Meaning) (l : ℕ) (f : Footprint) → IsSound h → Finds f (store_of h.cells) → Wears m l f → ⊥
not_worn h m l f sound finds worn =
    let last = (worn.run (store_of h.cells) finds).1.last in
    let v = versions_after 0 _ _ h.history (opened_versions h.opening) sound.legal l in
    let most = sound.most in omega arith

-- ---- where nothing is put, nothing changes

pub cells_same : (xs ys : List Cell) (f : Footprint) → store_of ys ≡ after f (store_of xs) → f.puts.items ≡ [] → length ys ≡ length xs → ys ≡ xs
cells_same xs ys f end none size =
    let same : store_of ys ≡ store_of xs = end ∙ fun_ext (λ l. ap (λ ps. cell_after (put_at ps l) (store_of xs l)) none) in
    ext_get_or zero_cell ys xs size (λ i lt. ap (λ (s : Store). s i) same)

-- ---- what is answered isn't retry

pub answered_ends : (m : Meaning) (a : Answer) (f : Footprint) (s : Store) → Answers m a f → Finds f s → (run_on m s).outcome ≡ retried → ⊥
answered_ends m a f s answers finds waits =
    let some = answers.run s finds in
    let none : None ≡ Some a = ap answer_of (sym waits) ∙ some in cc
