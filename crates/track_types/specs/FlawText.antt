-- The words for what a flaw tells.
use Rattle.std.specs.Prelude.{ℕ, List, ◌++◌, codes, decimal}
use Rattle.track_types.specs.declared.flaw.Flaw.{Flaw}
use Rattle.track_types.specs.declared.flaw.Section.{Section}
use Rattle.track_types.specs.declared.flaw.Section.TheVariants as section
use Rattle.track_types.specs.declared.flaw.Kind.{Kind}
use Rattle.track_types.specs.declared.flaw.Kind.TheVariants as kind

-- the name of a section
abbrev pub section_name : Section → List ℕ
section_name section.Header = codes "header"
section_name section.Objects = codes "objects"
section_name section.Alphabet = codes "alphabet"
section_name section.Layers = codes "layers"
section_name section.Rules = codes "rules"
section_name section.Starts = codes "starts"
section_name section.Gaps = codes "gaps"
section_name section.Anchors = codes "anchors"
section_name section.Presence = codes "presence"
section_name section.Offsets = codes "offsets"
section_name section.TreeLen = codes "treelen"
section_name section.Tree = codes "tree"
section_name section.Lasts = codes "lasts"
section_name section.Perm = codes "perm"
section_name section.Lengths = codes "lengths"
section_name section.Log = codes "log"
section_name section.End = codes "end"

-- the name of a kind of flaw
abbrev pub kind_name : Kind → List ℕ
kind_name kind.Short = codes "short"
kind_name kind.Magic = codes "magic"
kind_name kind.Field = codes "field"
kind_name kind.Large = codes "large"
kind_name kind.Order = codes "order"
kind_name kind.Pad = codes "pad"
kind_name kind.Extra = codes "extra"
kind_name kind.Code = codes "code"
kind_name kind.Rule = codes "rule"
kind_name kind.Symbol = codes "symbol"
kind_name kind.Total = codes "total"
kind_name kind.Offset = codes "offset"
kind_name kind.Tree = codes "tree"
kind_name kind.Cells = codes "cells"
kind_name kind.Perm = codes "perm"
kind_name kind.CellOrder = codes "cellorder"
kind_name kind.OffGrid = codes "offgrid"
kind_name kind.Duration = codes "duration"

-- the text of a flaw: its section, period and place, and its kind
abbrev pub flaw_text : Flaw → List ℕ
flaw_text flaw =
    codes "index " ++ section_name flaw.section ++ codes " period " ++ decimal flaw.period ++ codes " place " ++ decimal flaw.index
    ++ codes ": " ++ kind_name flaw.kind
