-- The code of an alert, as it is in a trace.
use Rattle.std.specs.Prelude.{ℕ, List, codes}
use Rattle.script.specs.declared.alert.Alert.{Alert}
use Rattle.script.specs.declared.alert.Alert.TheVariants.{Handle, Io, Lib, Link, Mask, Mem, Nest, Port, Sem, Value}

-- the text of each alert
abbrev pub alert_text : Alert → List ℕ
alert_text Handle = codes "HANDLE"
alert_text Io = codes "IO"
alert_text Lib = codes "LIB"
alert_text Link = codes "LINK"
alert_text Mask = codes "MASK"
alert_text Mem = codes "MEM"
alert_text Nest = codes "NEST"
alert_text Port = codes "PORT"
alert_text Sem = codes "SEM"
alert_text Value = codes "VALUE"
