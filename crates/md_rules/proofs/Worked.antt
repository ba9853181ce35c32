-- The worked MD file of document 01, by computation.
-- Assumes nothing.
use mathlib.Core.Path.{refl}
use Rattle.endian_rules.specs.Numbers.{value, digits, decode, encode, number_at}
use Rattle.endian_rules.specs.Words.{word_at, at_least}
use Rattle.endian_rules.specs.Files.{given, bytes_of}
use Rattle.refusal_rules.specs.Rules.{judge, first, first_fault}
use Rattle.refusal_rules.specs.Tests.{within}
use Rattle.md_rules.specs.Rules.{md_count_rules, md_sum_rules, md_fixed_rules, md_end_rules, md_rules}
use Rattle.md_rules.specs.Opening.{md_layout_of, open_md_words, open_md}
use Rattle.md_rules.specs.Fields.{field_word}
use Rattle.md_rules.specs.Worked.{file_m, M, layout_m, WorkedMd}

pub worked_md : WorkedMd
unfolding open_md open_md_words md_rules md_count_rules md_sum_rules md_fixed_rules md_end_rules md_layout_of first_fault first judge within at_least
    word_at number_at decode value encode digits bytes_of given field_word file_m M layout_m
worked_md =
    record {
      size = refl;
      m_opens = refl;
      m_key = refl;
      m_next-column = refl;
    }
