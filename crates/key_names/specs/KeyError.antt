-- The error that represents being out of memory.
use Rattle.key_names.specs.declared.key_error.KeyError.{KeyError}
use Rattle.key_names.specs.declared.key_error.KeyFault.TheVariants.{Memory}

-- Out of memory has the place 0.
abbrev pub want_of_memory : KeyError
want_of_memory = record { kind = Memory; place = 0 }
