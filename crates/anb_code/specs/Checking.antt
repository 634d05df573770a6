-- What a check knows of the instructions before the one that it looks at.
use Rattle.std.specs.Prelude.{◌≡◌, ℕ, ◌≤◌, ◌&&◌, not, List, length, map, All, is_some}
use Rattle.std.specs.BTreeMap.{get_by}
use Rattle.std.specs.Cmp.Lexicographic.{slice_cmp}
use Rattle.std.specs.Ordering.{nat_cmp}
use Rattle.std.specs.Str.{bytes_eq}
use Rattle.std.specs.List.{list_any, range_with_len}
use Rattle.anb_base.specs.declared.TheConstants.{ARRIVAL, WIDE}
use Rattle.anb_format.specs.Formats.{FormatValue}
use Rattle.anb_code.specs.declared.takes.Takes.{Takes}
use Rattle.anb_code.specs.RawValue.{RawInstrValue}
use Rattle.anb_code.specs.Registers.{register_widths}
use Rattle.anb_code.specs.Spelling.{instr_of}
use Rattle.anb_code.specs.Table.{is_take, written}

-- they write the registers from 0 on, which have these widths
pub record Knows (formats : List FormatValue) (before : List RawInstrValue) (widths : List ℕ) : Type 0 where
  pub registers : written before ≡ range_with_len 0 (length widths)
  pub widths_are : widths ≡ register_widths ARRIVAL formats (map (instr_of formats) before)
  pub narrow : All (λ width. width ≤ WIDE) widths

-- whether one of them is no take, and the texts of the takes
pub record KnowsTakes (before : List RawInstrValue) (takes : Takes) : Type 0 where
  pub others : takes.others ≡ list_any (λ (earlier : RawInstrValue). not (is_take earlier.what)) before
  pub texts : (text : List ℕ) → is_some (get_by (λ k. slice_cmp nat_cmp text k.now) takes.texts) ≡ list_any (λ (earlier : RawInstrValue). is_take earlier.what && bytes_eq earlier.name text) before
