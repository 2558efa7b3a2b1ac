-- The bit patterns of the code's literals, apart from what is proved of them. Assumes nothing.
use mathlib.Core.List.{List, [], ◌∷◌}
use Prim.Native.Nat.{ℕ}

-- the bit patterns of the code's literals
unfoldable pub linear_bits : List ℕ
linear_bits =
    0x3f6b6a31b5259c94 ∷ 0x3f6e1e31d70c99db ∷ 0x3f707c38bf8583a6 ∷ 0x3f71fcc2beed6420 ∷ 0x3f7390ffaf95e277 ∷ 0x3f753936cc7bc927 ∷
    0x3f76f5addb50c913 ∷ 0x3f78c6a94031b55f ∷ 0x3f7aac6c0fb9734d ∷ 0x3f7ca7381f9f6029 ∷ 0x3f7eb74e160978ca ∷ 0x3f806e76bbda92b7 ∷
    0x3f818c2a5a8a8041 ∷ 0x3f82b4e09b3f0ae2 ∷ 0x3f83e8b7b3bde962 ∷ 0x3f8527cd60af8b85 ∷ 0x3f86723eea8d3706 ∷ 0x3f87c8292a3db6b1 ∷
    0x3f8929a88d67b51e ∷ 0x3f8a96d91a8016ba ∷ 0x3f8c0fd67499fab4 ∷ 0x3f8d94bbdefd740c ∷ 0x3f8f25a44089883d ∷ 0x3f9061551372c693 ∷
    0x3f9135f3e4c2cce0 ∷ 0x3f9210bb8642b172 ∷ 0x3f92f1b8c1ae46bb ∷ 0x3f93d8f839b79c0b ∷ 0x3f94c6866b3e9fa1 ∷ 0x3f95ba6fae794313 ∷
    0x3f96b4c0380d2dec ∷ 0x3f97b5841a1bf3aa ∷ 0x3f98bcc74542add9 ∷ 0x3f99ca95898dc8b3 ∷ 0x3f9adefa9761c01e ∷ 0x3f9bfa0200597bd8 ∷
    0x3f9d1bb7381aec1d ∷ 0x3f9e442595227bc9 ∷ 0x3f9f73585185e1b1 ∷ 0x3fa054ad45d76876 ∷ 0x3fa0f31ba386ff25 ∷ 0x3fa194fcb663747a ∷
    0x3fa23a55e62a6627 ∷ 0x3fa2e32c8e148d0e ∷ 0x3fa38f85fd21eacc ∷ 0x3fa43f67766310fe ∷ 0x3fa4f2d6313fa8cd ∷ 0x3fa5a9d759ba5ecd ∷
    0x3fa6647010b254ec ∷ 0x3fa722a56c2239ee ∷ 0x3fa7e47c775d2425 ∷ 0x3fa8a9fa33494b05 ∷ 0x3fa973239698b9ca ∷ 0x3faa3ffd8e001387 ∷
    0x3fab108cfc6b7fbd ∷ 0x3fabe4d6bb31d520 ∷ 0x3facbcdf9a4616f0 ∷ 0x3fad98ac60675830 ∷ 0x3fae7841cb4f16dd ∷ 0x3faf5ba48fde2046 ∷
    0x3fb0216cad240764 ∷ 0x3fb096f2671eb814 ∷ 0x3fb10e65c38a5191 ∷ 0x3fb187c90bf8bce1 ∷ 0x3fb2031e85f5d6da ∷ 0x3fb28068731a1952 ∷
    0x3fb2ffa9111cb94a ∷ 0x3fb380e299e53f8f ∷ 0x3fb40417439ca10f ∷ 0x3fb4894940bddbfa ∷ 0x3fb5107ac0261e59 ∷ 0x3fb599aded247aa9 ∷
    0x3fb624e4ef892ed2 ∷ 0x3fb6b221ebb4817e ∷ 0x3fb7416702a539d1 ∷ 0x3fb7d2b65206b525 ∷ 0x3fb86611f43e9e67 ∷ 0x3fb8fb7c007a4a6d ∷
    0x3fb992f68abbbc89 ∷ 0x3fba2c83a3e6566a ∷ 0x3fbac82559cb3642 ∷ 0x3fbb65ddb7354602 ∷ 0x3fbc05aec3f4fe5e ∷ 0x3fbca79a84ebe02e ∷
    0x3fbd4ba2fc17a6a4 ∷ 0x3fbdf1ca289d34b6 ∷ 0x3fbe9a1206d34002 ∷ 0x3fbf447c904cbb4c ∷ 0x3fbff10bbbe302c0 ∷ 0x3fc04fe0bedfe5f1 ∷
    0x3fc0a84fe3b36d8e ∷ 0x3fc101d443dfc06d ∷ 0x3fc15c6ed58eefde ∷ 0x3fc1b8208da5fef0 ∷ 0x3fc214ea5fc9514a ∷ 0x3fc272cd3e610121 ∷
    0x3fc2d1ca1a9d1cfb ∷ 0x3fc331e1e479cdf4 ∷ 0x3fc393158ac3674d ∷ 0x3fc3f565fb1a5fd3 ∷ 0x3fc458d421f735dd ∷ 0x3fc4bd60eaae3e73 ∷
    0x3fc5230d3f736034 ∷ 0x3fc589da095dba9f ∷ 0x3fc5f1c8306b3a3a ∷ 0x3fc65ad89b841a29 ∷ 0x3fc6c50c307e53bf ∷ 0x3fc73063d420fc7d ∷
    0x3fc79ce06a2792ff ∷ 0x3fc80a82d5453b5a ∷ 0x3fc8794bf727eb3e ∷ 0x3fc8e93cb07b8676 ∷ 0x3fc95a55e0ecec09 ∷ 0x3fc9cc98672cf47e ∷
    0x3fca400520f3619b ∷ 0x3fcab49ceb01c000 ∷ 0x3fcb2a60a1263b05 ∷ 0x3fcba1511e3e6329 ∷ 0x3fcc196f3c39e76e ∷ 0x3fcc92bbd41d41fb ∷
    0x3fcd0d37be045850 ∷ 0x3fcd88e3d1250f61 ∷ 0x3fce05c0e3d1d3db ∷ 0x3fce83cfcb7c16ee ∷ 0x3fcf03115cb6bfce ∷ 0x3fcf83866b38924a ∷
    0x3fd00297e4ef4550 ∷ 0x3fd0440725571779 ∷ 0x3fd086115f6beb39 ∷ 0x3fd0c8b6fb5c735a ∷ 0x3fd10bf860ef0397 ∷ 0x3fd14fd5f782a5a5 ∷
    0x3fd1945026102995 ∷ 0x3fd1d967532b31b0 ∷ 0x3fd21f1be50339e4 ∷ 0x3fd2656e41649ae2 ∷ 0x3fd2ac5ecdb988f8 ∷ 0x3fd2f3edef0b0ed5 ∷
    0x3fd33c1c0a020436 ∷ 0x3fd384e982e800ae ∷ 0x3fd3ce56bda84a7f ∷ 0x3fd418641dd0c1bb ∷ 0x3fd463120692c7ad ∷ 0x3fd4ae60dac4229c ∷
    0x3fd4fa50fcdfde13 ∷ 0x3fd546e2cf0727a6 ∷ 0x3fd59416b3022856 ∷ 0x3fd5e1ed0a40daa8 ∷ 0x3fd6306635dbdd79 ∷ 0x3fd67f829695439f ∷
    0x3fd6cf428cd96077 ∷ 0x3fd71fa678bf915c ∷ 0x3fd770aeba0b0428 ∷ 0x3fd7c25bb02b7ac2 ∷ 0x3fd814adba3e0bd4 ∷ 0x3fd867a5370de0ae ∷
    0x3fd8bb428514f065 ∷ 0x3fd90f86027cb84b ∷ 0x3fd964700d1ef1b0 ∷ 0x3fd9ba010286451e ∷ 0x3fda10393feefafc ∷ 0x3fda67192247a9bb ∷
    0x3fdabea10631e191 ∷ 0x3fdb16d14802d5c7 ∷ 0x3fdb6faa43c403ba ∷ 0x3fdbc92c5533d782 ∷ 0x3fdc2357d7c64e5c ∷ 0x3fdc7e2d26a596dc ∷
    0x3fdcd9ac9cb2aef0 ∷ 0x3fdd35d69485ffc2 ∷ 0x3fdd92ab686ff77e ∷ 0x3fddf02b7279a10a ∷ 0x3fde4e570c6539c1 ∷ 0x3fdead2e8faec523 ∷
    0x3fdf0cb2558c9ea4 ∷ 0x3fdf6ce2b6f00980 ∷ 0x3fdfcdc00c85bec1 ∷ 0x3fe017a5575b3caf ∷ 0x3fe048c17ad3c049 ∷ 0x3fe07a349c9d9836 ∷
    0x3fe0abfee888c04e ∷ 0x3fe0de208a4444c7 ∷ 0x3fe11099ad5e83e9 ∷ 0x3fe1436a7d456eed ∷ 0x3fe176932546ca12 ∷ 0x3fe1aa13d0906bd8 ∷
    0x3fe1ddecaa307b83 ∷ 0x3fe2121ddd15aecb ∷ 0x3fe246a7940f86cf ∷ 0x3fe27b89f9ce8c4a ∷ 0x3fe2b0c538e48b06 ∷ 0x3fe2e6597bc4cc9f ∷
    0x3fe31c46ecc4528b ∷ 0x3fe3528db61a0f70 ∷ 0x3fe3892e01df1fcb ∷ 0x3fe3c027fa0f01e9 ∷ 0x3fe3f77bc887cd39 ∷ 0x3fe42f29970a68f7 ∷
    0x3fe467318f3ac22b ∷ 0x3fe49f93daa00112 ∷ 0x3fe4d850a2a4bddf ∷ 0x3fe51168109734e3 ∷ 0x3fe54ada4da97a1a ∷ 0x3fe584a782f1ac21 ∷
    0x3fe5becfd96a2697 ∷ 0x3fe5f95379f1b3ea ∷ 0x3fe634328d4bbe96 ∷ 0x3fe66f6d3c2081cf ∷ 0x3fe6ab03aefd39a9 ∷ 0x3fe6e6f60e5452af ∷
    0x3fe72344827d98f2 ∷ 0x3fe75fef33b66698 ∷ 0x3fe79cf64a21d1e1 ∷ 0x3fe7da59edc8daae ∷ 0x3fe8181a469a9786 ∷ 0x3fe856377c6c6222 ∷
    0x3fe894b1b6fa0376 ∷ 0x3fe8d3891de5df47 ∷ 0x3fe912bdd8b91f42 ∷ 0x3fe952500ee3dda3 ∷ 0x3fe9923fe7bd4f64 ∷ 0x3fe9d28d8a83edfa ∷
    0x3fea13391e5da09e ∷ 0x3fea5442ca57e52c ∷ 0x3fea95aab567f88e ∷ 0x3fead771066afec1 ∷ 0x3feb1995e4262a66 ∷ 0x3feb5c197546e3f6 ∷
    0x3feb9efbe062f083 ∷ 0x3febe23d4bf8981a ∷ 0x3fec25ddde6ecbbb ∷ 0x3fec69ddbe154af2 ∷ 0x3fecae3d1124c90d ∷ 0x3fecf2fbfdbf11ed ∷
    0x3fed381aa9ef2e7f ∷ 0x3fed7d993ba988d3 ∷ 0x3fedc377d8cc0fd2 ∷ 0x3fee09b6a71e5aa4 ∷ 0x3fee5055cc51cbb2 ∷ 0x3fee97556e01b350 ∷
    0x3feedeb5b1b37216 ∷ 0x3fef2676bcd69adc ∷ 0x3fef6e98b4c51465 ∷ 0x3fefb71bbec33ab1 ∷ 0x3ff0000000000000 ∷ []
