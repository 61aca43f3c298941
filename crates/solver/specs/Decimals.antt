-- The decimal literals of density_iteration.rs and critical_point.rs: d0·05 is 0.05. Definitions only.
use Rattle.std.specs.Prelude.{Float}
use Rattle.std.specs.Float.{binary64}
use Rattle.std.specs.Float.Ieee.{of_bits}

abbrev pub d0·95 : Float
d0·95 = of_bits binary64 0x3fee_6666_6666_6666

abbrev pub d0·05 : Float
d0·05 = of_bits binary64 0x3fa9_9999_9999_999a

abbrev pub d0·075 : Float
d0·075 = of_bits binary64 0x3fb3_3333_3333_3333

abbrev pub d0·15 : Float
d0·15 = of_bits binary64 0x3fc3_3333_3333_3333

abbrev pub d0·85 : Float
d0·85 = of_bits binary64 0x3feb_3333_3333_3333

abbrev pub d0·98 : Float
d0·98 = of_bits binary64 0x3fef_5c28_f5c2_8f5c

abbrev pub d0·8 : Float
d0·8 = of_bits binary64 0x3fe9_9999_9999_999a

abbrev pub d0·001 : Float
d0·001 = of_bits binary64 0x3f50_624d_d2f1_a9fc

abbrev pub d1·1 : Float
d1·1 = of_bits binary64 0x3ff1_9999_9999_999a

abbrev pub d1e_8 : Float
d1e_8 = of_bits binary64 0x3e45_798e_e230_8c3a

abbrev pub d1e_12 : Float
d1e_12 = of_bits binary64 0x3d71_9799_812d_ea11

abbrev pub d1e_14 : Float
d1e_14 = of_bits binary64 0x3d06_849b_86a1_2b9b

abbrev pub d0·25 : Float
d0·25 = of_bits binary64 0x3fd0_0000_0000_0000

abbrev pub d0·03 : Float
d0·03 = of_bits binary64 0x3f9e_b851_eb85_1eb8

abbrev pub d0·3 : Float
d0·3 = of_bits binary64 0x3fd3_3333_3333_3333

abbrev pub d1e_4 : Float
d1e_4 = of_bits binary64 0x3f1a_36e2_eb1c_432d

abbrev pub d1e_5 : Float
d1e_5 = of_bits binary64 0x3ee4_f8b5_88e3_68f1

abbrev pub d300 : Float
d300 = of_bits binary64 0x4072_c000_0000_0000

abbrev pub d500 : Float
d500 = of_bits binary64 0x407f_4000_0000_0000

abbrev pub d700 : Float
d700 = of_bits binary64 0x4085_e000_0000_0000
