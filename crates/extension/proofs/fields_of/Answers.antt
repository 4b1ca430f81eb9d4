-- `fields_of`: its value for each case.
use Rattle.extension.specs.Extension.{fields_of}
use Rattle.extension.proofs.fields_of.Goals as goal

pub returns-in-End : goal.returns-in-End
unfolding fields_of
returns-in-End c = rw c.in-End.is

pub returns-in-Header : goal.returns-in-Header
unfolding fields_of
returns-in-Header c = rw c.in-Header.is

pub returns-in-Refused : goal.returns-in-Refused
unfolding fields_of
returns-in-Refused c = rw c.in-Refused.is
