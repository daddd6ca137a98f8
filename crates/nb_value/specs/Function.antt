-- The names of the functions and the numbers of their arguments.
use Rattle.std.specs.Prelude.{ℕ, List, codes}
use Rattle.nb_value.specs.declared.function.Function.{Function}
use Rattle.nb_value.specs.declared.function.Function.TheVariants as f

abbrev pub function_name : Function → List ℕ
function_name f.Len = codes "len"
function_name f.Sum = codes "sum"
function_name f.Min = codes "min"
function_name f.Max = codes "max"
function_name f.Abs = codes "abs"
function_name f.Range = codes "range"
function_name f.Slice = codes "slice"
function_name f.Reverse = codes "reverse"
function_name f.Sort = codes "sort"
function_name f.Keys = codes "keys"
function_name f.Values = codes "values"
function_name f.Has = codes "has"
function_name f.Text = codes "text"
function_name f.Int = codes "int"
function_name f.Split = codes "split"
function_name f.Join = codes "join"

abbrev pub arity : Function → ℕ
arity f.Len = 1
arity f.Sum = 1
arity f.Min = 1
arity f.Max = 1
arity f.Abs = 1
arity f.Range = 2
arity f.Slice = 3
arity f.Reverse = 1
arity f.Sort = 1
arity f.Keys = 1
arity f.Values = 1
arity f.Has = 2
arity f.Text = 1
arity f.Int = 1
arity f.Split = 2
arity f.Join = 2
