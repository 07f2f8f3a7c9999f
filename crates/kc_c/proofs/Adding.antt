-- An add is an operation of C alone.
use Rattle.std.proofs.Common.{◌≡◌, ◌≢◌, ◌<◌, ◌≤◌, ℕ, [], ◌∷◌, Some, refl, sym, ap, arith}
use Rattle.kc_c.specs.Tries.{IsRepliedByItsRead, add_words, value_told}
use Rattle.kc_c.specs.declared.answers.TheConstants.{DONE}
use Rattle.kc_calls.proofs.Aloud.{told_one}
use Rattle.kc_calls.proofs.Saying.{op_says}
use Rattle.kc_calls.specs.Alone.{IsAlone, first_value}
use Rattle.kc_calls.specs.Meaning.{end_said, meaning_said}
use Rattle.kc_calls.specs.Said.{call_said}
use Rattle.kc_calls.specs.declared.call.Call.TheVariants as call
use Rattle.kc_loc.specs.Meaning.{loc_end}
use Rattle.kc_loc.specs.declared.operation.LocOp.{LocOp}
use Rattle.kc_loc.specs.declared.operation.LocOp.TheVariants as loc
use Rattle.kc_model.specs.declared.footprint.Footprint.{Footprint}
use Rattle.kc_model.specs.declared.plain_store.TheConstants.{MOST_LOCATIONS}
use Rattle.kc_model.specs.declared.reply.Item.TheVariants as item
use Rattle.kc_script_bundle.specs.declared.operation.Op.TheVariants as op

abbrev add : ℕ → ℕ → LocOp
add l number = loc.FetchAdd (record { 0 = l }) number

module _ (locations l number : ℕ) (few : locations ≤ MOST_LOCATIONS) (within : l < locations) where
  says : call_said (add_words l number) ≡ Some (call.Act (op.Loc (add l number)))
  says = op_says (op.Loc (add l number)) (omega (arith, few, within))

  pub add_alone : IsAlone locations (add_words l number ∷ []) (add l number)
  add_alone = record {
    are = record { few = omega arith; begins = refl; each = ((omega arith, (λ e. absurd (cc)), call.Act (op.Loc (add l number)), says, omega (arith, within)), tt); alternatives = omega arith; fed = (((λ e. absurd (cc)), (λ e. absurd (cc))), tt) };
    count = refl;
    meaning = ap meaning_said says;
    end = let e : end_said (call_said (add_words l number)) ≡ loc_end (add l number) = ap end_said says in omega (arith, e);
    fit = omega (arith, few, within);
    within = omega (arith, within);
    one = refl;
  }

-- where it was done, the value before is what was read
pub add_done : (l number : ℕ) (f : Footprint) (before after : ℕ) → after ≡ first_value f.reads.items → IsRepliedByItsRead (add l number) f DONE (value_told before ∷ []) (value_told after ∷ [])
add_done l number f before after is = record {
  done = λ e. (value_told after, refl, told_one _ (item.Value after) _ (ap (λ v. item.Value v ∷ []) (sym is)) refl);
  stays = λ differs. absurd (differs refl);
}

-- and else it stays
pub add_stays : (l number : ℕ) (f : Footprint) (n before : ℕ) → n ≢ DONE → IsRepliedByItsRead (add l number) f n (value_told before ∷ []) (value_told before ∷ [])
add_stays l number f n before differs = record { done = λ e. absurd (differs e); stays = λ e. refl }
