-- What a value of the type `Args` means.
use Rattle.rules.specs.Args.{Args as Session, args_at}
use Rattle.args.specs.declared.Args.{Args}

-- its five octets, read as they stand in a SID
unfoldable pub value : Args → Session
value args = args_at args.octets 0
