-- A name is text.
use Rattle.std.proofs.Common.{◌≡◌, ℕ, ◌<◌, Bool, true, false, ◌&&◌, List, [], ◌∷◌, refl, arith}
use Rattle.std.specs.List.{list_all}
use Rattle.std.specs.Str.{IsAscii, IsUtf8}
use Rattle.std.proofs.lemmas.Str.{IsUtf8-from_ascii}
use Rattle.std.proofs.lemmas.Str.Ascii.{IsAscii-nil, IsAscii-cons}
use Rattle.std.proofs.lemmas.Bool.Decides.{nat_tests}
use Rattle.kc_script_lines.specs.Words.{is_name_byte, is_name}

-- two tests that both hold
pub both : (a b : Bool) → (a && b) ≡ true → (a ≡ true) × (b ≡ true)
both true b e = (refl, e)
both false b e = absurd (cc)

-- a byte of a name is below 128
small : (b : ℕ) → is_name_byte b ≡ true → b < 128
small b h = grind (arith, nat_tests)

-- so are all of them
all_small : (bs : List ℕ) → list_all is_name_byte bs ≡ true → IsAscii bs
all_small [] h = IsAscii-nil
all_small (b ∷ bs) h = let p = both (is_name_byte b) (list_all is_name_byte bs) h in IsAscii-cons b bs (small b p.0) (all_small bs p.1)

-- a name is text
pub name_is_text : (word : List ℕ) → is_name word ≡ true → IsUtf8 word
name_is_text word h = IsUtf8-from_ascii word (all_small word (both _ _ h).1)
