-- How many bytes the values of a data type have.
use Rattle.std.specs.Prelude.{ℕ}
use Rattle.measured_values.specs.declared.data_type.DataType.{DataType}
use Rattle.measured_values.specs.declared.data_type.DataType.TheVariants.{AInt64, AUint64, Float16}
use Rattle.measured_values.specs.declared.data_type.DataType.TheVariants.{Float32, Float64, SByte}
use Rattle.measured_values.specs.declared.data_type.DataType.TheVariants.{SLong, SWord}
use Rattle.measured_values.specs.declared.data_type.DataType.TheVariants.{UByte, ULong, UWord}

abbrev pub size_of : DataType → ℕ
size_of UByte = 1
size_of SByte = 1
size_of UWord = 2
size_of SWord = 2
size_of ULong = 4
size_of SLong = 4
size_of AUint64 = 8
size_of AInt64 = 8
size_of Float16 = 2
size_of Float32 = 4
size_of Float64 = 8
