use Rattle.std.proofs.Common.{◌≡◌, true}
use Rattle.kc_script_lines.proofs.NameText.{name_is_text}
use Rattle.kc_script_lines.specs.Words.{is_name}
use Rattle.kc_script_lines.proofs.words.as_name.Goals as goal

pub from_utf8_unchecked-requires : goal.from_utf8_unchecked-requires
from_utf8_unchecked-requires c =
    let named : is_name c.args.word.now ≡ true = cc in
    name_is_text c.args.word.now named
