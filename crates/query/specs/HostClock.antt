-- Meaning: the clock that the code was given (01, "Asking").
use Rattle.query.specs.Authority.{Clock}
use Rattle.query.specs.declared.clock.Clock as host

-- the clock that the code was given
unfoldable pub clock_of : host.Clock → Clock
clock_of c = record { year = c.year; day = c.day; hour = c.hour }
