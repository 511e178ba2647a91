use Rattle.std.proofs.Common.{◌≡◌, drop}
use Rattle.pm_ranges.specs.Laid.{pieces_cover}
use Rattle.pm_ranges.proofs.pieces.pieces_cover.Given as goal

abbrev pub invariant-loop-piece : goal.invariant-loop-piece
invariant-loop-piece l = pieces_cover l.line l.when l.window l.pieces ≡ pieces_cover l.line l.when l.window (drop l.piece-index l.pieces)
