-- The moment of a message.
use Rattle.pm_base.specs.declared.stamp.Stamp.{Stamp}
use Rattle.pm_message.specs.declared.Message.{Message}
use Rattle.pm_message.specs.declared.Message.TheVariants as message

-- its own stamp; of a hit that is given, that of its read; of values that may stand after a moment, that moment; of a
-- record that moves, the moment below which it has no row
abbrev pub stamp_of : Message → Stamp
stamp_of (message.Wake num stamp) = stamp
stamp_of (message.Ask num stamp query) = stamp
stamp_of (message.Put num stamp var change) = stamp
stamp_of (message.Cut num stamp var) = stamp
stamp_of (message.Give row) = row.stamp
stamp_of (message.Finish num stamp) = stamp
stamp_of (message.Grow class from until window) = from
stamp_of (message.Move var floor parts) = floor
