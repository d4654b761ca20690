-- A fraction of the code, as the specification has it.
use Rattle.statistics.specs.Fractions as specification
use Rattle.fractions.specs.declared.Fraction.{Fraction}

abbrev pub fraction_record : Fraction → specification.Fraction
fraction_record f = record { numerator = f.numerator; denominator = f.denominator }
