mod Basics
