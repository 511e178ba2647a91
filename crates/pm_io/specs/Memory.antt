-- The devices in memory, and how they follow their scripts.
use Rattle.std.specs.Prelude.{◌≡◌, ℕ, min, max, List, drop, slice_index_or, Result, MatchResult}
use Rattle.pm_io.specs.Causes.{raised}
use Rattle.pm_io.specs.declared.script.Cue.{Cue}
use Rattle.pm_io.specs.declared.script.Cue.TheVariants.{All, Fail, Take}
use Rattle.pm_io.specs.declared.script.Script.{Script}
use Rattle.pm_io.specs.declared.memory.MemSink.{MemSink}
use Rattle.pm_io.specs.declared.memory.MemSource.{MemSource}

-- the cues of the calls to come; each call drops one
abbrev pub cues_left : Script → List Cue
cues_left s = drop s.followed s.cues.items

-- the cue of the next call: past the script it is `All`
abbrev pub next_cue : List Cue → Cue
next_cue cues = slice_index_or cues 0 All

-- how many of `most` bytes a call takes that doesn't fail
abbrev pub allowed : Cue → ℕ → ℕ
allowed All most = most
allowed Fail most = 0
allowed (Take n) most = min n most

-- in a source `Take 0` is as `Take 1`, since none is the end of the input
abbrev pub in_source : Cue → Cue
in_source All = All
in_source Fail = Fail
in_source (Take n) = Take (max n 1)

-- the bytes that a sink took, in order
abbrev pub sink_bytes : MemSink → List ℕ
sink_bytes m = m.bytes.items

-- the cues that a sink's next puts follow
abbrev pub sink_cues : MemSink → List Cue
sink_cues m = cues_left m.script

-- how many puts failed, at a cue or for want of memory, up to the last value of 64 bits
abbrev pub sink_faults : MemSink → ℕ
sink_faults m = m.faults

-- how many puts took nothing of a piece that isn't empty, up to the last value of 64 bits
abbrev pub sink_stalls : MemSink → ℕ
sink_stalls m = m.stalls

-- how many puts found no memory, up to the last value of 64 bits
abbrev pub sink_wants : MemSink → ℕ
sink_wants m = m.wants

-- the count after a put that failed: at its cue, or else for want of memory
abbrev pub wants_after : Cue → ℕ → ℕ
wants_after Fail wants = wants
wants_after All wants = raised wants
wants_after (Take n) wants = raised wants

-- a count of wants is raised at each put that finds no memory, and at nothing else
abbrev pub CountsWants : {E : Type 0} → Cue → ℕ → ℕ → Result ℕ E → Type 0
CountsWants cue before now result = MatchResult result (λ _. now ≡ before) (λ _. now ≡ wants_after cue before)

-- the bytes that no take has given yet
abbrev pub source_bytes : MemSource → List ℕ
source_bytes m = drop m.taken m.bytes.items

-- the cues that a source's next takes follow
abbrev pub source_cues : MemSource → List Cue
source_cues m = cues_left m.script

-- how many takes failed, up to the last value of 64 bits
abbrev pub source_faults : MemSource → ℕ
source_faults m = m.faults
