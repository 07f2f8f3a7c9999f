-- What follows of two files that were read, and of their picks.
use Rattle.std.proofs.Common.{◌≡◌, ℕ, suc, ◌<◌, ◌≤◌, All, Bool, true, false, List, [], ◌∷◌, ◌++◌, length, Option, Some, None, Result, refl, sym, ap, ◌∙◌, subst, arith}
use Rattle.std.proofs.lemmas.Bool.Decides.{nat_tests}
use Rattle.std.specs.List.{flat_map}
use Rattle.std.specs.Prelude.{◌==◌}
use Rattle.kc_model.proofs.Writes.{took_none}
use Rattle.kc_model.specs.Outside.{Took}
use Rattle.kc_model.specs.declared.outside.Failed.{Failed}
use Rattle.kc_model.specs.declared.outside.ShelfError.{ShelfError}
use Rattle.kc_script_lines.specs.declared.fault.Why.{Why}
use Rattle.kc_text_files.specs.Files.{file_lines, files_fault, in_parts, file_line, picked_lines, picks_fault, texts_fault, written_of}
use Rattle.kc_text_run.proofs.Written.{are_picked}
use Rattle.kc_text_run.specs.Picking.{AreTextsOf, WereReadByTwo}
use Rattle.kc_top.specs.Picking.{AreRead, PicksEnd, PicksRefuse, WritesPicked}
use Rattle.kc_top.specs.declared.served.Served.TheVariants as serving
use Rattle.kc_top.specs.declared.status.Status.{Status}
use Rattle.kc_top.specs.declared.status.Status.TheVariants as status

-- a test of a vector's length says whether it has something
pub is_none : {X : Type 0} (xs : List X) (n : ℕ) (test : Bool) → n ≡ length xs → test ≡ (n == 0) → test ≡ true → xs ≡ []
is_none [] n test len is asked = refl
is_none (x ∷ xs) n test len is asked = absurd (some n (length xs) len (sym is ∙ asked))
  where
    some : (m k : ℕ) → m ≡ suc k → (m == 0) ≡ true → ⊥
    some m k e t = grind (arith, nat_tests)

pub is_some : {X : Type 0} (xs : List X) (n : ℕ) (test : Bool) → n ≡ length xs → test ≡ (n == 0) → test ≡ false → 0 < length xs
is_some [] n test len is asked = absurd (none n len (sym is ∙ asked))
  where
    none : (m : ℕ) → m ≡ 0 → (m == 0) ≡ false → ⊥
    none m e t = grind (arith, nat_tests)
is_some (x ∷ xs) n test len is asked = omega arith

-- where a pick is one of so many texts, there is a text
pub some_text : (picks : List ℕ) (n : ℕ) → All (λ k. (1 ≤ k) × (k ≤ n)) picks → 0 < length picks → 1 ≤ n
some_text [] n each some = absurd (omega (arith, some))
some_text (k ∷ ks) n each some = let (least, most) = each 0 k (omega arith) in omega (arith, least, most)

-- ---- faults

pub texts_wrong : (texts picks : List ℕ) (line : ℕ) (why : Why) → texts_fault texts ≡ Some (line, why) → files_fault texts picks ≡ Some (1, line, why)
texts_wrong texts picks line why e = ap (λ (o : Option (ℕ × Why)). in_parts o (picks_fault (length (file_lines texts)) picks)) e

pub picks_judged : (texts picks : List ℕ) (fault : Option (ℕ × Why)) → texts_fault texts ≡ None → picks_fault (length (file_lines texts)) picks ≡ fault → files_fault texts picks ≡ in_parts None fault
picks_judged texts picks fault none e = ap (λ (o : Option (ℕ × Why)). in_parts o (picks_fault (length (file_lines texts)) picks)) none ∙ ap (λ (o : Option (ℕ × Why)). in_parts None o) e

module _ {F : Type 0} (files : F → Option (List (List ℕ × List ℕ))) (faults : F → ℕ) (sure : F → Bool) (gives : F → List ℕ → ℕ → Result (List ℕ) ShelfError → F → Type 0) (texts_name picks_name : List ℕ) (f f' : F)
    {K : Type 0} (written : K → Option (List ℕ)) (sink_faults : K → ℕ) (write_gives : K → List ℕ → Result ℕ Failed → K → Type 0) where
  -- where no picks were read, nothing is written or served
  pub refused_end : (k k' : K) (e : Status) → k' ≡ k → PicksRefuse files faults sure gives texts_name picks_name f f' e → PicksEnd files faults sure gives texts_name picks_name written sink_faults write_gives f f' k k' serving.Nothing e
  refused_end k k' status.Done same r = absurd r
  refused_end k k' status.WriteFault same r = absurd r
  refused_end k k' status.ReadFault same r = (r, same, refl)
  refused_end k k' status.TooLong same r = (r, same, refl)
  refused_end k k' status.NoMemory same r = (r, same, refl)
  refused_end k k' status.Usage same r = (r, same, refl)
  refused_end k k' (status.Script part line why) same r = (r, same, refl)
  refused_end k k' (status.Illegal line why) same r = (r, same, refl)

  module _ (texts : List (List ℕ)) (picks : List ℕ) (read : AreRead files faults sure gives texts_name picks_name f f' texts picks) where
    -- without a pick nothing is to be written
    pub none_end : (k : K) → picks ≡ [] → PicksEnd files faults sure gives texts_name picks_name written sink_faults write_gives f f' k k serving.Nothing status.Done
    none_end k none = record {
      texts = read.texts_file;
      picks = read.picks_file;
      reads = read.reads;
      serves = sym read.the_picks ∙ none;
      shows = subst (λ (ks : List ℕ). Took written sink_faults write_gives k (picked_lines (file_lines read.texts_file) ks) k) (sym none ∙ read.the_picks) (took_none k);
    }

    -- the lines of the texts that were read are what is to be written
    lines_are : (front back : List (List ℕ)) → AreTextsOf texts picks (front ++ back) → flat_map file_line front ++ flat_map file_line back ≡ written_of read.texts_file read.picks_file
    lines_are front back h = are_picked texts picks front back h ∙ ap (λ (ts : List (List ℕ)). picked_lines ts picks) read.the_texts ∙ ap (λ (ks : List ℕ). picked_lines (file_lines read.texts_file) ks) read.the_picks

    pub some_end : (Written : K → List ℕ → K → Type 0) (k k' : K) (front back : List (List ℕ)) (past : _) → 0 < length picks → AreTextsOf texts picks (front ++ back) → WereReadByTwo (length texts) picks past
        → Written k (flat_map file_line front ++ flat_map file_line back) k' → WritesPicked files faults sure gives texts_name picks_name Written f f' k k' (serving.Kcas past)
    some_end Written k k' front back past some are by_two wrote = record {
      texts = read.texts_file;
      picks = read.picks_file;
      reads = read.reads;
      serves = (
        subst (λ (ks : List ℕ). 0 < length ks) read.the_picks some,
        subst (λ (ks : List ℕ). WereReadByTwo (length (file_lines read.texts_file)) ks past) read.the_picks (subst (λ (ts : List (List ℕ)). WereReadByTwo (length ts) picks past) read.the_texts by_two),
      );
      shows = subst (λ (bytes : List ℕ). Written k bytes k') (lines_are front back are) wrote;
    }
