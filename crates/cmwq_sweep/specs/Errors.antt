-- How want of memory is told.
use Rattle.cmwq_streams.specs.declared.error.PlayError.TheVariants as play
use Rattle.cmwq_sweep.specs.declared.error.SweepError.{SweepError}
use Rattle.cmwq_sweep.specs.declared.error.SweepError.TheVariants.{Play}

abbrev pub no_memory : SweepError
no_memory = Play play.NoMemory
