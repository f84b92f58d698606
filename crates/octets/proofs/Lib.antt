mod Std
