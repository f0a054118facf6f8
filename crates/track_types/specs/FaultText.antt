-- The texts of faults.
use Rattle.std.specs.Prelude.{ℕ, List, codes}
use Rattle.track_types.specs.declared.bounds.NumberFault.{NumberFault}
use Rattle.track_types.specs.declared.bounds.NumberFault.TheVariants.{NotNumber, Range}
use Rattle.track_types.specs.declared.limit.LimitKind.{LimitKind}
use Rattle.track_types.specs.declared.limit.LimitKind.TheVariants as limit
use Rattle.track_types.specs.declared.raw_row.RowFault.{RowFault}
use Rattle.track_types.specs.declared.raw_row.RowFault.TheVariants as row
use Rattle.track_types.specs.declared.setting.Setting.{Setting}
use Rattle.track_types.specs.declared.setting.Setting.TheVariants as setting

-- the text of a word that is no numeral within two bounds
abbrev pub number_fault_text : NumberFault → List ℕ
number_fault_text NotNumber = codes "not a number"
number_fault_text Range = codes "out of range"

-- the text of a record that is no row
abbrev pub row_fault_text : RowFault → List ℕ
row_fault_text row.Count = codes "not four fields"
row_fault_text row.NotNumber = codes "not a number"
row_fault_text row.Range = codes "out of range"

-- the name of a quantity in a text
abbrev pub limit_name : LimitKind → List ℕ
limit_name limit.Csv = codes "csv"
limit_name limit.Rows = codes "rows"
limit_name limit.Objects = codes "objects"
limit_name limit.Span = codes "span"
limit_name limit.Extent = codes "extent"
limit_name limit.Blocks = codes "blocks"
limit_name limit.Symbols = codes "symbols"
limit_name limit.Index = codes "index"
limit_name limit.Questions = codes "questions"
limit_name limit.Base = codes "base"

-- the name of a setting in a text
abbrev pub setting_name : Setting → List ℕ
setting_name setting.Cell = codes "cell"
setting_name setting.Tick = codes "tick"
setting_name setting.Period = codes "period"
