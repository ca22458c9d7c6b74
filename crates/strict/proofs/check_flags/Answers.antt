use Rattle.strict.specs.Fit.{flags_fit_of}
use Rattle.strict.proofs.check_flags.Goals as goal

-- what the five readings answered is what the definition reads
pub returns : goal.returns
unfolding flags_fit_of
returns c =
    rw (c.check_readings.ensures, c.return_number-return_number.ensures, c.number_of_returns-number_of_returns.ensures, c.class-class.ensures, c.scanner_channel-scanner_channel.ensures, c.is_overlap-overlap.ensures)
